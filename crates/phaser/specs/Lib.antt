pub mod Model
pub mod Rules
pub mod Members
pub mod Watchers
pub mod Barriers
