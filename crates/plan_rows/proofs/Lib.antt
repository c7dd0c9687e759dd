pub mod NamesLemmas
pub mod PoolsLemmas
