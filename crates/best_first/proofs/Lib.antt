pub mod ExploredLemmas
pub mod FrontiersLemmas
pub mod LinksLemmas
pub mod ReachLemmas
pub mod ReachedLemmas
pub mod SteadyLemmas
pub mod TreesLemmas
