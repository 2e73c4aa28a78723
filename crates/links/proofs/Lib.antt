-- Laws of the answers, of what the reads and writes of a slot tell and leave, and of slots in their place in a tree.
pub mod Answers
pub mod Reading
pub mod Writing
pub mod Spots
pub mod Colors
pub mod Shapes
