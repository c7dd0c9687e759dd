-- What a run leaves behind where it stops before it has an outcome.
use Rattle.std.specs.Prelude.{◌≡◌, ℕ, ◌<◌, List, [], ◌∷◌, ◌++◌, length, take, Option}
use Rattle.std.specs.Io.KnownBytes.{Appends}
use Rattle.std.specs.List.{flat_map}
use Rattle.report_text.specs.Texts.{text_of_entry}
use Rattle.round_run.specs.declared.fault.RunFault.{RunFault}
use Rattle.round_run.specs.declared.fault.RunFault.TheVariants.{Answer, Generator, Write, Memory}
use Rattle.transcript_model.specs.declared.entry.Entry.{Entry}

-- Of these entries the sink took all lines but the end of the last one's.
pub record CutsLast (old new : Option (List ℕ)) (entries : List Entry) : Type 0 where
  pub done : List Entry
  pub last : Entry
  pub is : entries ≡ done ++ last ∷ []
  pub count : ℕ
  pub less : count < length (text_of_entry last)
  pub took : Appends old new (flat_map text_of_entry done ++ take count (text_of_entry last))

-- Of these entries the sink took all lines; but a fault of the sink left out the end of the last one's.
abbrev pub StopsAt : RunFault → Option (List ℕ) → Option (List ℕ) → List Entry → Type 0
StopsAt Write old new entries = CutsLast old new entries
StopsAt Generator old new entries = Appends old new (flat_map text_of_entry entries)
StopsAt Memory old new entries = Appends old new (flat_map text_of_entry entries)
StopsAt (Answer number why) old new entries = Appends old new (flat_map text_of_entry entries)

-- a fault that writing may have
abbrev pub MayWrite : RunFault → Type 0
MayWrite Generator = ⊥
MayWrite Memory = Unit {0}
MayWrite Write = Unit {0}
MayWrite (Answer number why) = ⊥

-- a fault that a call on a child may have
abbrev pub MayHear : RunFault → Type 0
MayHear Generator = Unit {0}
MayHear Memory = Unit {0}
MayHear Write = ⊥
MayHear (Answer number why) = ⊥

-- a fault that may come where an answer is heard
abbrev pub MayListen : RunFault → Type 0
MayListen Generator = Unit {0}
MayListen Memory = Unit {0}
MayListen Write = ⊥
MayListen (Answer number why) = Unit {0}
