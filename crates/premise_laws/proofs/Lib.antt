pub mod EntriesLemmas
pub mod RunLemmas
pub mod GivenLemmas
pub mod PoolLemmas
pub mod TalkLemmas
pub mod WellLemmas
