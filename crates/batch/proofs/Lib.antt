pub mod Batching
pub mod Only
