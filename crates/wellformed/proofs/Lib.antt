-- Lemmas that the proofs of functions cite.
pub mod Kins
pub mod Fitting
pub mod Nodes
pub mod Tips
pub mod Children
pub mod Downs
pub mod Tallies
pub mod Whole
