pub mod SaveLaws
pub mod RoundTrip
pub mod LinkedRoundTrip
