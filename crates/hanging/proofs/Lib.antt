-- Hanging a slot keeps its promises.
pub mod Colors
pub mod Uncles
pub mod Settling
pub mod Finishing
pub mod Climbing
pub mod Inserting
