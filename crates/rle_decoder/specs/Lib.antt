pub mod Appended
pub mod NextSegment
pub mod Rows
