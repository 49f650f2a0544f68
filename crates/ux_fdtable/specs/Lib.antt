pub mod Padded
pub mod Refusals
