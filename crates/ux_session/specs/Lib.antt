pub mod Sessions
pub mod Going
pub mod Making
pub mod Leading
