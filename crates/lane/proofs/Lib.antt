pub mod Examples
pub mod KnownItems
pub mod Prefixes
pub mod StepLemmas
pub mod LinkLemmas
pub mod MeetLemmas
