pub mod Channel
pub mod Layouts
pub mod Examples
pub mod Column
pub mod Samples
