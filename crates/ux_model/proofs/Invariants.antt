-- What holds in every state of a legal history.
pub mod Refusals
pub mod KeptSound
pub mod ConnectedSound
pub mod ReachedSound
pub mod ReleasedSound
pub mod Dangling
pub mod FlightLaws
pub mod StaysBounded
pub mod SmallTables
pub mod Closed
pub mod MadeObjects
pub mod HandingOut
pub mod FreeChoices
