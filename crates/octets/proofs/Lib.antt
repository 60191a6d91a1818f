pub mod Strings
pub mod Tests
