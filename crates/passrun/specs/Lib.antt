pub mod Laid
pub mod Layout
pub mod PassRuns
pub mod BlockRuns
pub mod Blocks
pub mod BlockLaws
pub mod OneLaws
pub mod EndLaws
