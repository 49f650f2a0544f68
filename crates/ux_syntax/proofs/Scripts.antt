-- Lines that are read spell the script that was read, and lines that spell a script are read.
pub mod Limits
pub mod Exits
pub mod Processes
pub mod Lines
pub mod Headers
pub mod Reading
pub mod Whole
pub mod Faults
pub mod FirstFault
pub mod Results
