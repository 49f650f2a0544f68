pub mod Traces
pub mod Runs
pub mod Echoing
pub mod Answering
pub mod Updates
pub mod JsonTexts
pub mod Following
pub mod Hearing
