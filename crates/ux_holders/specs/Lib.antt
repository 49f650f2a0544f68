pub mod Rows
pub mod Targets
pub mod Listing
pub mod Kinds
