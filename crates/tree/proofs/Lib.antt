pub mod Steps
pub mod Texts
pub mod Spots
pub mod Cites
pub mod Walks
pub mod Answers
pub mod Plain
