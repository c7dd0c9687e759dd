pub mod FormLemmas
pub mod ServedLemmas
pub mod FaultsLemmas
pub mod ChildrenLemmas
pub mod LawsLemmas
pub mod GridLemmas
