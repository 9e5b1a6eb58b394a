pub mod InLemmas
pub mod TakerLemmas
pub mod OutLemmas
