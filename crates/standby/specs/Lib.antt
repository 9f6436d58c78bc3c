pub mod Standby
pub mod Trail
pub mod Ahead
pub mod Sought
