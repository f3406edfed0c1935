pub mod Quoted
pub mod Bytes
pub mod Digits
