pub mod Strings
pub mod Given
pub mod StringLaws
