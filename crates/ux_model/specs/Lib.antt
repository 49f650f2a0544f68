-- In the order in which they are read: none comes before what it uses.

-- ---- the state

pub mod Types
pub mod Places
pub mod Limits
pub mod Object
pub mod Flags
pub mod Names
pub mod Message
pub mod Stream
pub mod Control
pub mod ControlReading
pub mod Credentials
pub mod Backlog
pub mod Socket
pub mod Front
pub mod Description
pub mod Process
pub mod Delivery
pub mod State
pub mod References
pub mod Release
pub mod Peers
pub mod Flight
-- ---- a call

pub mod Outcome
pub mod Naming
pub mod Pairing
pub mod Binding
pub mod Connecting
pub mod Sending
pub mod Receiving
pub mod FileObjects
pub mod Opening
pub mod Making
pub mod Reading
pub mod Writing
pub mod Seeking
pub mod Descriptors
pub mod Accepting
pub mod Options
pub mod Readiness
pub mod Polling
pub mod QueueLengths
pub mod Users
pub mod Forking
pub mod Closing
pub mod Step
pub mod Asking
pub mod Waiting
pub mod Rooms
pub mod ReplyKinds
-- ---- a history

pub mod Boot
pub mod Delivered
pub mod History
pub mod Giving
pub mod Pedigree
-- ---- laws

pub mod HandingOut
pub mod FreeChoices
pub mod Owning
pub mod Moves
pub mod Invariants
pub mod Changes
pub mod PedigreeLaws
pub mod ReadyCalls
pub mod FlightLaws
pub mod RoomLaws
