pub mod Answers
pub mod Fits
pub mod Forms
pub mod Kinds
pub mod Lines
pub mod Ranges
pub mod Spelled
pub mod WorkedConfigurations
