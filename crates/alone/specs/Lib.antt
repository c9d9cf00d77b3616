pub mod Formula
pub mod Holds
pub mod Base
pub mod Cells
pub mod Given
pub mod Echo
pub mod Reserved
