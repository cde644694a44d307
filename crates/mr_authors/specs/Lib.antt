pub mod Authors
