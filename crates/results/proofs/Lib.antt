pub mod ChoiceLemmas
pub mod JsonLemmas
pub mod KnownLemmas
pub mod PatternLemmas
pub mod PlaceLemmas
pub mod RenewalLemmas
pub mod SummaryLemmas
pub mod TextLemmas
