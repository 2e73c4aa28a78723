pub mod Answering
pub mod Pieces
