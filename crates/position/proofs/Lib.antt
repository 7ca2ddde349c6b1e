pub mod Flips
pub mod Runs
pub mod Found
pub mod Words
pub mod Correcting
