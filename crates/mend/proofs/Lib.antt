pub mod WrittenLaws
pub mod StepLaws
pub mod WalkLaws
pub mod EndLaws
pub mod Contract
