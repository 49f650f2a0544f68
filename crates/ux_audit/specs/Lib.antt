-- In the order in which they are read.
pub mod Shown
pub mod Flags
pub mod Givers
pub mod Holdings
pub mod Origins
pub mod Indexes
pub mod Text
