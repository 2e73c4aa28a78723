-- Of entries by their numbers and of the part of a line, and that the exported promises leave no choice.
pub mod Places
pub mod Parts
pub mod Only
