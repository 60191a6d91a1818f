pub mod Words
pub mod KeyWords
pub mod Widths
