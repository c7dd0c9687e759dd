pub mod PoolsFrontLemmas
pub mod PoolsLemmas
pub mod ServedLemmas
