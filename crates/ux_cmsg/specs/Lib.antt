pub mod Items
pub mod Found
pub mod Refusals
