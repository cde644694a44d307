pub mod Ready
pub mod Late
