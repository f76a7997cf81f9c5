pub mod Cuts
pub mod Halves
pub mod EdgeRemoval
pub mod Renumberings
pub mod CutAndPaste
pub mod Equality
