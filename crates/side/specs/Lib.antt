pub mod Side
pub mod Relaxing
