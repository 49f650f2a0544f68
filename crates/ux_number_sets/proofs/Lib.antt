pub mod BitLaws
pub mod SetLaws
pub mod GroupLaws
