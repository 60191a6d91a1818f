pub mod Laws
pub mod Ring
pub mod Lengths
