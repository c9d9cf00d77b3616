pub mod Block
pub mod Group
pub mod Xor
pub mod Trip
pub mod XorWord
