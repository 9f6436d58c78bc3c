pub mod ClearLaws
pub mod AskLaws
pub mod CommonLaws
