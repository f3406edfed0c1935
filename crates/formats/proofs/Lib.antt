pub mod Marks
pub mod Laws
pub mod Ids
