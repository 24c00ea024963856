pub mod Lamps
pub mod Lights
pub mod Bytes
