pub mod Halves
pub mod HalfExamples
