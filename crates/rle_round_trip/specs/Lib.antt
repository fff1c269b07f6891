pub mod Prefix
pub mod Claim
pub mod RoundTripResult
pub mod Examples
