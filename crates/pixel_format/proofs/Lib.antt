mod ColumnSamples
mod Examples
pub mod Layouts
pub mod ChannelSamples
