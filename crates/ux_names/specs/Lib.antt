pub mod Refusals
pub mod Listed
pub mod Targets
pub mod NumbersInUse
pub mod Order
pub mod Seeds
