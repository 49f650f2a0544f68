-- Each call comes of such changes; histories are made again.
pub mod NameCalls
pub mod OptionCalls
pub mod MessageCalls
pub mod MakingCalls
pub mod Asking
pub mod Calls
pub mod ChangedIds
pub mod Replays
