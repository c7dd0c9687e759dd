-- The faults of numbers that lead back to themselves.
use Rattle.std.specs.Prelude.{◌≡◌, ℕ, Bool, if◌then◌else◌, List, [], ◌∷◌, Option}
use Rattle.form_reader.specs.declared.fault.Fault.{Fault}
use Rattle.form_reader.specs.declared.fault.InputKind.{InputKind}
use Rattle.form_reader.specs.Faults.{first, sooner}
use Rattle.name_tables.specs.Graphs.{HasWay, IsCyclic}
use Rattle.name_tables.specs.declared.cycles.Candidate.{Candidate}

-- Of candidates, each a number with the place of its fault, those have the fault from which a way leads back.
pub data CycleFaults (kind : InputKind) (edges : List (List ℕ)) : List Candidate → List Fault → Type 0 where
  no_more : CycleFaults kind edges [] []
  cyclic : {c : Candidate} {cs : List Candidate} {fs : List Fault} → HasWay edges c.node c.node
      → CycleFaults kind edges cs fs → CycleFaults kind edges (c ∷ cs) (record { place = c.place; kind = kind } ∷ fs)
  free : {c : Candidate} {cs : List Candidate} {fs : List Fault} → ¬ (HasWay edges c.node c.node)
      → CycleFaults kind edges cs fs → CycleFaults kind edges (c ∷ cs) fs

abbrev pub with_fault : Bool → Fault → Option Fault → Option Fault
with_fault there f so_far = if there then sooner so_far f else so_far

-- the answered one of a fault so far and of that of one candidate
pub record AnswersCycle (kind : InputKind) (edges : List (List ℕ)) (c : Candidate)
    (so_far answered : Option Fault) : Type 0 where
  pub there : Bool
  pub right : IsCyclic edges c.node there
  pub least : answered ≡ with_fault there (record { place = c.place; kind = kind }) so_far

-- the answered one of a fault so far and of such faults
pub record AnswersCycles (kind : InputKind) (edges : List (List ℕ)) (cs : List Candidate)
    (so_far answered : Option Fault) : Type 0 where
  pub faults : List Fault
  pub right : CycleFaults kind edges cs faults
  pub least : answered ≡ first so_far faults
