pub mod ColourOrBlack
pub mod Examples
