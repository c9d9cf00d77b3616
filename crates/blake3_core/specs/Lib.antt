pub mod Compress
