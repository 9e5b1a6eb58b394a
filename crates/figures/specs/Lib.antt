pub mod ErrorNames
pub mod FieldRules
pub mod Examples
