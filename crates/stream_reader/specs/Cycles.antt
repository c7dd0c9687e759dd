-- The streams that lead to themselves.
use Rattle.std.specs.Prelude.{ℕ, ◌+◌, Bool, true, false, if◌then◌else◌, List, [], ◌∷◌, ◌++◌, Option, Some, None}
use Rattle.sexpr_text.specs.Trees.{Trees, nothing, word, list}
use Rattle.task_model.specs.Fit.{stream_leads}
use Rattle.task_model.specs.declared.domain.Domain.{Domain}
use Rattle.task_model.specs.declared.stream.Stream as stream
use Rattle.form_reader.specs.declared.keys.Keyed.{Keyed}
use Rattle.stream_reader.specs.Tables.{kind_of}
use Rattle.name_tables.specs.declared.cycles.Candidate.{Candidate}

-- ---- what leads where

-- the number of the second stream, if the first leads to it in one step
abbrev pub next_one : Domain → stream.Stream → stream.Stream → ℕ → List ℕ
next_one d s t number = if stream_leads d s t then number ∷ [] else []

-- the numbers of those of these streams to which a stream leads in one step; the first of them has this number
abbrev pub next_streams : Domain → stream.Stream → ℕ → List stream.Stream → List ℕ
next_streams d s number [] = []
next_streams d s number (t ∷ ts) = next_one d s t number ++ next_streams d s (number + 1) ts

-- of each of some streams, where these are all
abbrev pub edges_from : Domain → List stream.Stream → List stream.Stream → List (List ℕ)
edges_from d all [] = []
edges_from d all (s ∷ ss) = next_streams d s 0 all ∷ edges_from d all ss

-- to which streams each stream leads in one step, all by their numbers
abbrev pub edges_of : Domain → List stream.Stream → List (List ℕ)
edges_of d all = edges_from d all all

-- ---- the streams of a text by their numbers, with their places

abbrev pub is_there : Option Keyed → Bool
is_there None = false
is_there (Some keyed) = true

-- the first one has this number
abbrev pub candidates_of : ℕ → Trees → List Candidate
candidates_of number nothing = []
candidates_of number (word text at rest) = candidates_of number rest
candidates_of number (list items at rest) =
    if is_there (kind_of items) then record { node = number; place = at } ∷ candidates_of (number + 1) rest
    else candidates_of number rest
