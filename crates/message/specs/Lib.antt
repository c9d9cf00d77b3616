pub mod Format
pub mod FormatLaws
pub mod Found
pub mod Read
pub mod Examples
