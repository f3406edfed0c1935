pub mod Walk
pub mod Cited
pub mod Plain
