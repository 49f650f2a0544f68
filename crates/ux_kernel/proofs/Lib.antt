pub mod Processes
pub mod Boots
pub mod FileCalls
pub mod Listening
