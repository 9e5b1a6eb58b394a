pub mod CommandLemmas
pub mod NumberLemmas
pub mod TextsLemmas
pub mod WordsLemmas
