pub mod Answers
pub mod Model
pub mod Steps
pub mod Openings
pub mod Kept
