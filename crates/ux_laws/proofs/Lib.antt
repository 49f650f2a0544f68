pub mod Parts
pub mod Acts
pub mod Doing
pub mod Flows
pub mod Senders
pub mod Makers
pub mod Gathers
pub mod Delivering
pub mod Ways
pub mod Touching
pub mod Opened
pub mod NoWay
pub mod Unwritten
pub mod Firsts
pub mod Apart
pub mod Packets
pub mod Whole
pub mod Installing
pub mod Spent
pub mod NoRights
pub mod Near
pub mod LeftAlone
pub mod Aside
pub mod OwnNames
pub mod NamesLeft
pub mod Bound
pub mod Ended
pub mod Telling
pub mod Resetting
pub mod NoEmpty
pub mod Inputs
pub mod WaitEnds
pub mod AcceptWaits
pub mod SendWaits
pub mod ConnectWaits
pub mod Progress
pub mod Connections
pub mod Sends
pub mod Wakes
pub mod FewRecords
pub mod Associations
pub mod MessageWaits
pub mod RoomsCome
pub mod PlacesCome
pub mod GoingOn
pub mod OrderedSends
pub mod Rooms
pub mod Writes
pub mod FileReads
pub mod FileWaits
pub mod Polls
pub mod PollWakes
pub mod Offsets
pub mod NewNames
pub mod Openings
pub mod Unprivileged
mod Play
mod StreamExample
mod RecordExample
mod RightsExample
mod CredentialExample
mod FileExample
mod WriteExample
mod EndExample
mod InputExample
mod ReadExample
mod FileWaitExample
mod NameExample
mod ReachExample
mod ApartExample
mod ChannelExample
mod WaitExample
mod RoomExample
mod PollWakeExample
mod MessageWaitExample
