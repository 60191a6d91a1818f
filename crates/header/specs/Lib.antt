pub mod Header
pub mod Blocks
pub mod List
