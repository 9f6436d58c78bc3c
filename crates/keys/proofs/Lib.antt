pub mod BoundLaws
pub mod ChoiceLaws
