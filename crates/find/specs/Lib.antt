pub mod Find
pub mod Run
