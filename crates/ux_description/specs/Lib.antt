pub mod Views
pub mod Targets
