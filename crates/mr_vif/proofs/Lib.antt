pub mod KeepLemmas
pub mod VifLemmas
pub mod MaskLemmas
