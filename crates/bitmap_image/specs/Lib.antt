pub mod Rows
pub mod WritePlanes
pub mod Examples
