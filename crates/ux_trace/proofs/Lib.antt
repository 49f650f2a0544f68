pub mod Texts
pub mod Quotes
pub mod Telling
