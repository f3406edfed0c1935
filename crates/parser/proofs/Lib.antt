pub mod Steps
pub mod Ahead
pub mod Orders
pub mod Holding
pub mod Turns
pub mod Bare
pub mod Placing
pub mod Parsing
