-- How references change with one part of a state.
pub mod Moves
pub mod Sockets
pub mod Making
pub mod Owning
