pub mod Forms
pub mod Lines
pub mod Fit
pub mod Fields
pub mod Words
pub mod Reading
pub mod Laws
pub mod Bytes
