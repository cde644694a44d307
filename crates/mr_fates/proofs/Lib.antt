pub mod Searching
pub mod Located
pub mod Kept
pub mod Ending
pub mod Folding
pub mod Giving
pub mod Laning
