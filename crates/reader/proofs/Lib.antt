pub mod Back
pub mod Making
pub mod Outcomes
pub mod Statuses
