-- Of each call: which kind of change it makes. One lemma a call, and one line of `each_did`, at the end.
pub mod Outcomes
pub mod Descriptors
pub mod Naming
pub mod Sending
pub mod Receiving
pub mod Files
pub mod Calls
