pub mod Hex
pub mod Pieces
