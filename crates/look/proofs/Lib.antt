pub mod LookLaws
