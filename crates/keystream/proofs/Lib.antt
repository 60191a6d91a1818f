pub mod Laws
mod Writing
