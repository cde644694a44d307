pub mod Accepted
pub mod Counting
pub mod Rows
pub mod Lanes
pub mod Loading
pub mod Copying
pub mod Busiest
pub mod Adding
