pub mod Members
pub mod Asked
