-- The changes that calls are made of, and what each of them keeps.
pub mod Sound
pub mod Named
pub mod Walk
pub mod Bounds
pub mod Reaching
pub mod HeldOpen
pub mod Obeying
pub mod LeastNames
