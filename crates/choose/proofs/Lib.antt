pub mod RouteChoice
pub mod PairingLaws
pub mod EndLaws
