pub mod Clearing
pub mod Floor
