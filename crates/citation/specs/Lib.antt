pub mod Truths
pub mod Kinds
pub mod Pakete
