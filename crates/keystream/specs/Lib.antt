pub mod KeyStream
pub mod Pieces
