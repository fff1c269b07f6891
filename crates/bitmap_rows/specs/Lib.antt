pub mod Rows
pub mod Inner
pub mod Examples
