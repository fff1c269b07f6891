pub mod Rows
mod PixelLoop
mod Inner
mod Examples
