mod Clip
pub mod Colour
mod Examples
