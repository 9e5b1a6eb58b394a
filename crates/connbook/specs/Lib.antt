pub mod Receipts
pub mod Ledgers
pub mod ReceiptExamples
pub mod Words
