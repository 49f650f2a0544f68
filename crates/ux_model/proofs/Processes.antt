-- Which processes live, and their numbers.
pub mod Living
pub mod Numbering
