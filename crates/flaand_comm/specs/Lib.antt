pub mod Given
pub mod AreaLaws
