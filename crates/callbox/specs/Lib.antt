pub mod InSides
pub mod InAccounts
pub mod OutSides
pub mod OutAccounts
