pub mod Refusals
pub mod Due
pub mod Orders
pub mod Wakers
pub mod Kind
pub mod WakerLaws
pub mod Flags
