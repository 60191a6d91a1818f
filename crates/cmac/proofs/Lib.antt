pub mod Laws
mod Shift
