-- What goes at the end of a call: in rounds, in any order, and what is left.
pub mod Losses
pub mod ReleaseLaws
pub mod ReleasedNumbers
pub mod AnyOrder
pub mod OneGoes
pub mod Settling
