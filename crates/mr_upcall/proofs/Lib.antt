pub mod AcceptedHeads
pub mod RingSteps
