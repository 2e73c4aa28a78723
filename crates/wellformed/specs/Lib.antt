pub mod Checks
pub mod Tests
pub mod Views
