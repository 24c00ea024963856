pub mod Model
pub mod Parts
pub mod Rules
pub mod Steps
