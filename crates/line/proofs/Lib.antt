pub mod Texts
pub mod Named
pub mod Outcomes
pub mod Cuts
pub mod Inputs
