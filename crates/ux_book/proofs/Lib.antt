pub mod Pasts
pub mod Trails
pub mod LastReplies
pub mod Legal
pub mod Slips
pub mod Appending
pub mod Settling
pub mod Sitting
