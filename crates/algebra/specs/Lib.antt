pub mod Xor
pub mod Group
pub mod Sum
pub mod Bucket
pub mod Half
pub mod Leaky
pub mod Taut
pub mod Share
