pub mod Looking
pub mod Releasing
pub mod Keeping
pub mod Bridges
pub mod ReleasingAll
pub mod Listing
