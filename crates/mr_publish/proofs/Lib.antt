pub mod Prefixes
pub mod Rising
pub mod Adding
pub mod Fitting
