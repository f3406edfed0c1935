pub mod Appends
pub mod Mapped
