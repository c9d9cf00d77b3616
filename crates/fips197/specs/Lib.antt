pub mod Field
pub mod Sbox
pub mod Key
pub mod Cipher
