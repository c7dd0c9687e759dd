-- Words that are read one after another.
use Rattle.std.proofs.Common.{◌≡◌, ℕ, List, [], ◌∷◌, ◌++◌, refl, ap, Result, Ok, Err, append_assoc}
use Rattle.task_reader.specs.declared.refusal.FaultKind.{FaultKind}
use Rattle.plan_reader.specs.Steps.{behind_words}

-- one word more was read
pub behind_word : (words : List (List ℕ)) (word : List ℕ) (more : Result (List (List ℕ)) FaultKind)
    → behind_words words (behind_words (word ∷ []) more) ≡ behind_words (words ++ word ∷ []) more
behind_word words word (Ok more) = ap (λ ws. let r : Result (List (List ℕ)) FaultKind = Ok ws in r) (simp append_assoc)
behind_word words word (Err kind) = refl

-- none was read
pub behind_none : (more : Result (List (List ℕ)) FaultKind) → behind_words [] more ≡ more
behind_none (Ok more) = refl
behind_none (Err kind) = refl
