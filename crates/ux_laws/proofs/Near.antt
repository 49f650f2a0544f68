-- Of each call: that it changes only what is in its reach, and resets no socket. One lemma a call, and one line of `each_near`.
pub mod Single
pub mod Leading
pub mod Descriptors
pub mod Options
pub mod Messages
pub mod Files
pub mod Calls
