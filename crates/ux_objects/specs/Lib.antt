pub mod Faultless
pub mod Failing
pub mod Layers
pub mod Given
