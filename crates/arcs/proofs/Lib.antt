pub mod ArcLaws
pub mod LookedLaws
