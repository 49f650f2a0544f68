pub mod Faults
pub mod Again
pub mod Runs
