pub mod Masks
pub mod Rules
pub mod Keeping
pub mod WorkedVifs
