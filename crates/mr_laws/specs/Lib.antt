pub mod Shape
pub mod Served
pub mod Once
pub mod Rows
