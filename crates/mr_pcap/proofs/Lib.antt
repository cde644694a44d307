pub mod Again
pub mod Records
pub mod Spelling
pub mod Written
