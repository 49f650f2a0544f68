pub mod Making
mod SameLists
mod SameRequests
mod SameReplies
