pub mod FaultsFirstLemmas
pub mod FaultsLeastLemmas
pub mod ItemsLemmas
pub mod RowsLemmas
