pub mod PlaneSequence
