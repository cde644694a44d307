pub mod Leading
pub mod Waiting
