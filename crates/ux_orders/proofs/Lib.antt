pub mod Breaking
pub mod Covering
pub mod Crewing
pub mod Threads
pub mod Walking
