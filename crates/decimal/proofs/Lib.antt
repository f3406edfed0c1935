pub mod Orders
pub mod Digits
pub mod Exact
