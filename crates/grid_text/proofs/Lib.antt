pub mod FilesLemmas
pub mod LinesFieldLemmas
pub mod GridsLemmas
pub mod LinesLemmas
pub mod NumbersLemmas
pub mod RectsLemmas
pub mod RightLinesLemmas
pub mod TasksLemmas
