pub mod Tests
pub mod Tables
