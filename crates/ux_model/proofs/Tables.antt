-- How calls change the tables of processes, as their requests and replies say it.
pub mod Queues
pub mod Replacing
pub mod Shows
pub mod DescriptorShows
pub mod SocketShows
pub mod MakingShows
pub mod MessageShows
pub mod FileShows
pub mod CallShows
