mod Words
pub mod Made
