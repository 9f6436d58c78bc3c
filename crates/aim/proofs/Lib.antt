pub mod AimLaws
