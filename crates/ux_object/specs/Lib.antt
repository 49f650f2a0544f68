pub mod Kind
pub mod Calls
