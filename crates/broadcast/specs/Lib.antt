pub mod BroadcastLaws
pub mod Told
