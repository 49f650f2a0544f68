pub mod Telling
pub mod Changing
