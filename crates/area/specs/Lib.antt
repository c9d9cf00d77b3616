pub mod AreaLaws
pub mod Filled
pub mod Given
pub mod GivenLaws
pub mod Positions
pub mod Sizes
