pub mod NameLaws
pub mod FreeNames
pub mod Ordering
