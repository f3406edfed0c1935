pub mod Marks
pub mod Tallies
