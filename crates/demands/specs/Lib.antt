pub mod Promises
pub mod DemandThree
pub mod LinkedPromises
pub mod FilePromises
pub mod GridPromises
pub mod WindowPromises
pub mod LinkedDemandThree
pub mod Slips
