pub mod EditsLemmas
pub mod KeptLemmas
pub mod RowsLemmas
