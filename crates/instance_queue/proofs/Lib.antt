pub mod LevelLemmas
pub mod NotesLemmas
