pub mod Triples
pub mod Out
