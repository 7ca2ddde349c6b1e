pub mod Pages
pub mod Code
pub mod Checks
pub mod Nearest
pub mod Settings
