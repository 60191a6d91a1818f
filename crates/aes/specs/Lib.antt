pub mod Cipher
pub mod KeyExpansion
pub mod State
pub mod Work
pub mod Aes
pub mod Keyed
