pub mod CutLaw
pub mod PassCuts
