pub mod Marks
pub mod Rings
pub mod Shown
