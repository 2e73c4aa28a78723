pub mod Climbs
pub mod Inserts
pub mod Recolors
