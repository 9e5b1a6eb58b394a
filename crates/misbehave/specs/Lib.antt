pub mod Judgements
pub mod Written
