pub mod Refusals
pub mod Result
pub mod Known
