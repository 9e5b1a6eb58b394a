pub mod Varints
pub mod FieldsRead
pub mod VarintsWritten
pub mod OneReading
pub mod Examples
