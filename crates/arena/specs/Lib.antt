pub mod Cells
pub mod Table
pub mod Sound
pub mod Arenas
pub mod Waits
pub mod Ringing
pub mod Batches
pub mod Wakers
