pub mod Faults
pub mod Calling
pub mod FileCalls
