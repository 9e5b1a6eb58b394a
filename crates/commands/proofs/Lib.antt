pub mod LinesLemmas
pub mod TellingLemmas
