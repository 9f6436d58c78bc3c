pub mod BarsLaws
