pub mod AcceptedHeads
pub mod Errnos
pub mod Heads
pub mod MemStores
pub mod Outside
pub mod WorkedHeads
