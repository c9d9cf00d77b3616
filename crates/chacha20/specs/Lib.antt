pub mod ChaCha20
pub mod ChaCha20Laws
