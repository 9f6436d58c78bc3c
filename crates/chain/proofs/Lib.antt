pub mod ChainLaws
pub mod BuiltLaws
