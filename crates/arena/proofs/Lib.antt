mod Counts
mod Places
mod Steps
mod Values
pub mod Sounds
pub mod Laws
pub mod Arenas
pub mod Parks
pub mod SetLaws
pub mod Woken
