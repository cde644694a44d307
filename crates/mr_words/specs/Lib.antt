pub mod Words
pub mod Parts
pub mod Numbers
pub mod Names
pub mod Binds
pub mod Items
