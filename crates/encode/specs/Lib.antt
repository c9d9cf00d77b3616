pub mod Encode
pub mod Coded
pub mod RoundTrip
pub mod Fields
pub mod Kinds
pub mod Stretch
pub mod Bucket
