pub mod Labels
pub mod Code
pub mod Short
pub mod Theory
