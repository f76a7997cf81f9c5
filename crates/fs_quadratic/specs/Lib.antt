pub mod Ring
pub mod Width
pub mod Checked
pub mod Radicand
pub mod CompleteQuotient
