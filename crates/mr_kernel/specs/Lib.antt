pub mod Flows
pub mod Standing
pub mod Holding
pub mod Values
pub mod Plans
pub mod Asking
pub mod Changing
pub mod Endings
