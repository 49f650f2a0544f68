-- Lemmas on lists, on their fronts, and on lists of numbered places.
pub mod Fronts
pub mod Appending
pub mod Induction
pub mod ChangedPlaces
pub mod OnePlace
pub mod ByPlace
pub mod Rising
