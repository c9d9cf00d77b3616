pub mod Given
pub mod OpeningLaws
