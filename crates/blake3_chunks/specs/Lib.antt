pub mod Chunks
pub mod ChunkLaws
