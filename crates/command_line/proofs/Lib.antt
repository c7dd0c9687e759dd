mod NumbersLemmas
mod AppsLemmas
mod WordsLemmas
pub mod RangesLemmas
