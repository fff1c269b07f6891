pub mod CodeRow
pub mod Put
pub mod RunFlags
