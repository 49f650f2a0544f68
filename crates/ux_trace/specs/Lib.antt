pub mod Trace
pub mod Echoes
