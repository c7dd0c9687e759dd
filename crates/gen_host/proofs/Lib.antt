pub mod CallsLemmas
pub mod MembersLemmas
pub mod MembersIdleLemmas
