pub mod Digits
pub mod Buffers
pub mod LineCuts
pub mod Runs
pub mod Requested
