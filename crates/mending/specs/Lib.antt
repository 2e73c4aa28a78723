pub mod Passes
pub mod Turns
pub mod Climbs
