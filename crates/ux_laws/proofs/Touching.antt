-- Which calls change file objects and paths: a read and a write what a descriptor leads to; bind adds a socket's path, and unlink takes one
-- away.
pub mod Tables
pub mod Contents
pub mod Paths
pub mod Making
pub mod Calls
pub mod Ends
