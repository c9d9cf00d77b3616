pub mod Given
pub mod ItemLaws
