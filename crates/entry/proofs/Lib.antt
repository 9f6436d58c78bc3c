pub mod EntryLaws
pub mod Contract
