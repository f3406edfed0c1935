pub mod Marks
pub mod Tallies
pub mod Walks
pub mod Answers
