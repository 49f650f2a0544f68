-- In the order in which they are read.
pub mod WaitingPlaces
pub mod Lines
pub mod Digits
pub mod Text
pub mod Spelling
pub mod Turns
pub mod Reading
pub mod Forms
pub mod Results
pub mod Joining
pub mod Continuing
pub mod Tidy
pub mod Expectations
pub mod PlainLines
