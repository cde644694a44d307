pub mod Text
pub mod Orders
pub mod Walk
pub mod Whole
pub mod Laws
pub mod Answers
