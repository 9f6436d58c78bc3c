pub mod TrailLaws
pub mod SeekLaws
pub mod PutLaws
pub mod RunLaws
pub mod TrackLaws
pub mod BarredLaws
pub mod OutcomeLaws
