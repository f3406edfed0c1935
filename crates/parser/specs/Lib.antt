pub mod Packed
pub mod Answer
pub mod Tokens
pub mod Reading
pub mod States
