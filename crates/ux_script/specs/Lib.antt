pub mod Writes
pub mod Runs
pub mod Comparing
pub mod Updating
pub mod JsonLines
pub mod Following
pub mod Objects
pub mod Hearing
