pub mod Values
pub mod Lists
pub mod Copies
pub mod Rules
pub mod WorkedCopies
