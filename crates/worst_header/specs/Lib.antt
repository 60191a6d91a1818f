pub mod WorstHeader
