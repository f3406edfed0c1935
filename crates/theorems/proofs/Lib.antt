pub mod Demand3
pub mod Gateway
pub mod Violations
