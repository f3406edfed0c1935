pub mod Runs
pub mod Tokens
pub mod Numbers
pub mod Scan
pub mod State
pub mod Rebuilt
pub mod Admitted
