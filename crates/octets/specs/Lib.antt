pub mod Octets
pub mod LittleEndian
