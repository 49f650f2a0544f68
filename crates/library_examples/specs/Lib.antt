pub mod Greeting
pub mod Histories
pub mod KeyServer
