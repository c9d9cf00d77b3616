pub mod Plain
pub mod Held
pub mod MaskLaws
pub mod ReceiveLaws
pub mod SendLaws
