pub mod Tail
