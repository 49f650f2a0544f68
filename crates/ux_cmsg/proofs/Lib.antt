pub mod Numbers
pub mod OneItem
pub mod ItemLists
pub mod Collecting
pub mod Written
