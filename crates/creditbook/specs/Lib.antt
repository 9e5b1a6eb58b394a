pub mod Books
pub mod BookExamples
