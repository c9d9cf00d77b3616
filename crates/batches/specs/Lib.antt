pub mod Batches
pub mod Turns
pub mod BatchLaws
