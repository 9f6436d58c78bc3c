pub mod TryLaws
pub mod TallyLaws
