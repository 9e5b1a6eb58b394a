pub mod AskedLemmas
mod NameLemmas
mod ReportLemmas
