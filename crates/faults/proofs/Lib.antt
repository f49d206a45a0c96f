pub mod FaultLaws
pub mod RowFaultLaws
