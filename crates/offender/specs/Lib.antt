pub mod Search
pub mod RefusedStages
pub mod FactorMatrix
pub mod ElementTurns
pub mod RefusedBounds
pub mod NamedElements
pub mod OneRow
