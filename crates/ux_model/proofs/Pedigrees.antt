-- Which message brought which right, and chains of holdings.
pub mod Carried
pub mod Mail
pub mod Moments
pub mod Passing
pub mod OneChain
pub mod OneDescription
