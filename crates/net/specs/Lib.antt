pub mod Net
pub mod Search
