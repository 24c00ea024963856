pub mod Refused
pub mod Ways
pub mod Meetings
pub mod Layouts
