pub mod Answers
pub mod Sendings
pub mod Receipts
