pub mod Lines
pub mod Lanes
pub mod Keeping
pub mod After
pub mod Rows
