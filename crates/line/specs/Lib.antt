pub mod Sizes
pub mod Lines
pub mod Said
pub mod Parts
pub mod Input
