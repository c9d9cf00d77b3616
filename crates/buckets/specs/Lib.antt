pub mod Given
pub mod Entries
