mod Closing
mod Greeting
mod Histories
mod KeyServer
