-- How large replies are.
pub mod ReceivedSizes
pub mod ReplyKinds
pub mod ReplySizes
