-- The streams that pools serve, name by name.
use Rattle.std.proofs.Common.{◌≡◌, ℕ, ◌+◌, ◌<◌, List, [], ◌∷◌, ◌++◌, take, drop, length, get_or, sym, ap, ◌∙◌, Option, Some, None, Bool, true, false, not, ◌&&◌, ◌==◌, option_map, unwrap_or}
use Rattle.std.proofs.lemmas.List.{drop_more, take_more}
use Rattle.std.proofs.lemmas.List.Elements.{filter_map-append}
use Rattle.std.specs.List.{filter_map, list_any, cons_option}
use Rattle.task_model.specs.declared.task.Task.{Task}
use Rattle.transcript_model.specs.Names.{stream_named}
use Rattle.replay_check.specs.Heads.{are_new, is_new}

module _ (task : Task) where
  -- what the next name makes of the test
  abbrev goes_on : List ℕ → Option ℕ → List (List ℕ) → Bool
  goes_on before o rest =
      is_new before o
      && are_new task (before ++ unwrap_or (option_map (λ (stream : ℕ). stream ∷ []) o) []) rest

  named_on : (before : List ℕ) (rest : List (List ℕ)) (s : ℕ)
      → list_any (λ x. x == s) before ≡ false
      → goes_on before (Some s) rest ≡ are_new task (before ++ s ∷ []) rest
  named_on before rest s new = ap (λ (b : Bool). not b && are_new task (before ++ s ∷ []) rest) new

  named_before : (before : List ℕ) (rest : List (List ℕ)) (s : ℕ)
      → list_any (λ x. x == s) before ≡ true
      → goes_on before (Some s) rest ≡ false
  named_before before rest s old =
      ap (λ (b : Bool). not b && are_new task (before ++ s ∷ []) rest) old

  -- the test at the next name
  at_next : (before : List ℕ) (names : List (List ℕ)) (k : ℕ) (name : List ℕ) (o : Option ℕ)
      → k < length names → name ≡ get_or names k name
      → stream_named task name ≡ o → are_new task before (drop k names) ≡ goes_on before o (drop (k + 1) names)
  at_next before names k name o lt is found =
      ap (are_new task before) (drop_more names k name lt)
      ∙ ap (λ (n : List ℕ). are_new task before (n ∷ drop (k + 1) names)) (sym is)
      ∙ ap (λ (p : Option ℕ). goes_on before p (drop (k + 1) names)) found

  -- a name of no stream
  pub no_stream : (before : List ℕ) (names : List (List ℕ)) (k : ℕ) (name : List ℕ)
      → k < length names → name ≡ get_or names k name
      → stream_named task name ≡ None → are_new task before (drop k names) ≡ false
  no_stream before names k name lt is found = at_next before names k name None lt is found

  -- a name of a stream that was named before
  pub stream_again : (before : List ℕ) (names : List (List ℕ)) (k s : ℕ) (name : List ℕ)
      → k < length names → name ≡ get_or names k name
      → stream_named task name ≡ Some s → list_any (λ x. x == s) before ≡ true → are_new task before (drop k names) ≡ false
  stream_again before names k s name lt is found old =
      at_next before names k name (Some s) lt is found ∙ named_before before (drop (k + 1) names) s old

  -- a name of a new stream
  pub stream_more : (before : List ℕ) (names : List (List ℕ)) (k s : ℕ) (name : List ℕ)
      → k < length names → name ≡ get_or names k name
      → stream_named task name ≡ Some s → list_any (λ x. x == s) before ≡ false
      → are_new task before (drop k names) ≡ are_new task (before ++ s ∷ []) (drop (k + 1) names)
  stream_more before names k s name lt is found new =
      at_next before names k name (Some s) lt is found ∙ named_on before (drop (k + 1) names) s new

  -- the streams of one name more
  pub streams_more : (names : List (List ℕ)) (k s : ℕ) (name : List ℕ) → k < length names
      → name ≡ get_or names k name
      → stream_named task name ≡ Some s
      → filter_map (stream_named task) (take (k + 1) names) ≡ filter_map (stream_named task) (take k names) ++ s ∷ []
  streams_more names k s name lt is found =
      ap (filter_map (stream_named task)) (take_more names k name lt ∙ ap (λ (n : List ℕ). take k names ++ n ∷ []) (sym is))
      ∙ filter_map-append (stream_named task) (take k names) (name ∷ [])
      ∙ ap (λ (o : Option ℕ). filter_map (stream_named task) (take k names) ++ cons_option o []) found
