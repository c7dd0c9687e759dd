pub mod RunEarlierLemmas
pub mod RunFormedCallLemmas
pub mod RunFormedDreamLemmas
pub mod RunFormedEntryLemmas
pub mod RunFormedOutcomeLemmas
pub mod RunFormedReportLemmas
pub mod MemoryLemmas
pub mod RunPlainEntryLemmas
pub mod RunSkeletonLemmas
pub mod RunStreamNameLemmas
pub mod RunSupposedLemmas
pub mod RunTurnMarkLemmas
mod GridAnswerLemmas
mod GridBoundLemmas
pub mod GridMadeLemmas
pub mod GridMadePoolLemmas
pub mod GridOneChildLemmas
mod GridOtherLemmas
pub mod GridProgramLemmas
mod GridStreamLemmas
mod GridTalkLemmas
mod GridValueLemmas
pub mod ReplayJudgedLemmas
pub mod ReplayMapPoolLemmas
pub mod MigratedLemmas
pub mod ReplayPoolSumLemmas
pub mod SolvedLemmas
pub mod ReplayVersionOriginLemmas
pub mod ReplayVersionTurnsLemmas
pub mod WrittenHeadLemmas
pub mod WrittenLemmas
pub mod WrittenPoolLemmas
mod TextMadeTalkLemmas
mod TextOneLemmas
mod SpelledLemmas
mod SpelledRunLemmas
mod TextTalkLemmas
