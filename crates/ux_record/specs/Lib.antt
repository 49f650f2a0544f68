pub mod Records
pub mod Shown
