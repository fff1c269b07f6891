pub mod Cases
pub mod Counts
pub mod Fields
pub mod Layouts
pub mod Results
pub mod Examples
