pub mod Tallies
pub mod Judged
