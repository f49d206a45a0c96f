pub mod RoundTrip
pub mod LinkedRoundTrip
