pub mod Rules
pub mod Exact
pub mod Table
pub mod Answers
