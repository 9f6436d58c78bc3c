pub mod NetLaws
pub mod SearchLaws
