pub mod Checks
pub mod Opened
