pub mod Given
pub mod KeptLaws
pub mod HLaws
pub mod AreaLaws
