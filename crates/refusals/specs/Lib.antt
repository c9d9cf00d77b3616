pub mod Reason
pub mod Numbered
