pub mod Sounding
pub mod Growing
pub mod Numbered
pub mod Going
