-- Laws of clearing: step by step, and on the drawing of a tree.
pub mod Steps
pub mod Trees
