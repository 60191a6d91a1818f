pub mod Siv
pub mod Calls
pub mod Ring
pub mod Work
