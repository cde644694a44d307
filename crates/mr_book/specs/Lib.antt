pub mod Rule
pub mod Views
pub mod Steps
pub mod Opening
pub mod Pairs
pub mod WorkedTable
