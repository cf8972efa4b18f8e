pub mod Lanes
pub mod Parts
pub mod LaneSteps
pub mod LaneLaws
pub mod FilledLines
pub mod RowLaws
pub mod StageLaws
