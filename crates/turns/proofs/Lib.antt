-- The rotations and replace_with keep their promises.
pub mod Mirrors
pub mod Rotations
pub mod Replacing
