pub mod S2v
