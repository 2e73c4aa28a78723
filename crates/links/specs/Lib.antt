pub mod Bundles
pub mod Colors
pub mod Outcomes
pub mod Reads
pub mod Shapes
pub mod Sides
pub mod Writes
