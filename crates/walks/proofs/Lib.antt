-- The walks over a tree in the arrays find what the model says.
pub mod Spines
pub mod Rises
pub mod Neighbours
