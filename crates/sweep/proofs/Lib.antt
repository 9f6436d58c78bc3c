pub mod SweepLaws
pub mod WalkLaws
pub mod WindowMains
pub mod SweptLaws
pub mod StepLaws
