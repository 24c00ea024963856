mod Layouts
mod Limits
pub mod Told
