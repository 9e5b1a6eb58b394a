pub mod Windows
pub mod WindowHistory
pub mod WindowHistoryExamples
pub mod WindowExamples
