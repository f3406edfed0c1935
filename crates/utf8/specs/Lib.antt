pub mod Utf8
pub mod Walker
pub mod White
pub mod Limits
