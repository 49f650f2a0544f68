pub mod FreePlaces
pub mod Places
pub mod TwoFree
pub mod Installing
