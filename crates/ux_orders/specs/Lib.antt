pub mod Lists
pub mod Orders
pub mod Outcomes
pub mod Threads
pub mod Crews
pub mod Walks
