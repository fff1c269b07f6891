pub mod Examples
pub mod Split
