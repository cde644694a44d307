pub mod Entries
pub mod Words
pub mod Generated
pub mod Dealt
pub mod Sums
pub mod Adding
pub mod Summary
pub mod Worked
