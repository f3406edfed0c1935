pub mod Numbers
pub mod Answers
pub mod Sizes
pub mod Determined
