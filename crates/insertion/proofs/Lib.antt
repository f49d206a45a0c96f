pub mod NewTableLaws
