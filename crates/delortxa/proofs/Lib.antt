pub mod Calling
pub mod Giving
pub mod Layers
pub mod Seatings
pub mod Sittings
pub mod Traces
