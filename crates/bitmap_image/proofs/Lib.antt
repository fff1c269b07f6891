pub mod ImageLoop
pub mod AlphaRows
pub mod Row
pub mod PlanesFit
pub mod Examples
