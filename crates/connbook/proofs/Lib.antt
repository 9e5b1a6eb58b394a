pub mod StepLemmas
pub mod AdmitLemmas
