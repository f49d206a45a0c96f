pub mod Coarser
