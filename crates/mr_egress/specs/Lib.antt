pub mod Copies
pub mod FastOrder
pub mod Files
pub mod Laws
pub mod Places
pub mod WorkedRows
