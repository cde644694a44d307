pub mod Values
pub mod Fitting
pub mod Laws
pub mod WorkedTables
