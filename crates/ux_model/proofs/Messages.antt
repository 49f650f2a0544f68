-- What a receive takes of a queue, rights in flight, and what poll reports of queues.
pub mod FrontRights
pub mod Reached
pub mod Flying
pub mod Datagrams
pub mod ReadyCalls
