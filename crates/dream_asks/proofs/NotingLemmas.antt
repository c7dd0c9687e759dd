-- What is noted of a dream's requests.
use Rattle.std.proofs.Common.{◌≡◌, ℕ, suc, ◌+◌, ◌<◌, ◌≤◌, arith, All, List, [], ◌∷◌, ◌++◌, take, length, get_or, refl, sym, ap, subst, ◌∙◌, append_assoc, add-one, length-take-le}
use Rattle.std.proofs.Math.Seq.{take-suc}
use Rattle.std.proofs.lemmas.List.{append-nil, map-append, take_all}
use Rattle.std.proofs.lemmas.List.Elements.{All-append, All-nil, All-cons}
use Rattle.std.specs.Option.{option_and_then, option_or}
use Rattle.dream_asks.proofs.AnswersLemmas.{objects_came}
use Rattle.dream_asks.proofs.ProgressLemmas.{came_joined, numbered_instances, or_assoc, or_none}
use Rattle.dream_asks.proofs.StayLemmas.{stays}
use Rattle.dream_asks.specs.Next.{asked_instances}
use Rattle.dream_asks.specs.Noting.{HasNoted, WereMade, came_by, came_for, objects_for}
use Rattle.dream_asks.specs.Progress.{IsProgress, Progress, came, got, numbered}
use Rattle.dream_asks.specs.declared.asks.DreamAsk.{DreamAsk}
use Rattle.task_model.specs.declared.task.Task.{Task}
use Rattle.transcript_model.proofs.LegalNumberLemmas.{asks_more}
use Rattle.transcript_model.specs.Dreaming.{Sent, paired}
use Rattle.transcript_model.specs.Legal.{asks_of}
use Rattle.transcript_model.specs.declared.entry.Entry.{Entry}

-- ---- ask by ask

came_pushed : (names : List (List ℕ)) (behind : List Entry) (number : ℕ) (asks : List DreamAsk) (a : DreamAsk) (o : ℕ)
    → came_for names behind number (asks ++ a ∷ []) o
    ≡ option_or (came_for names behind number asks o) (came_by names behind (number + length asks) a.outputs o)
came_pushed names behind number [] a o =
    or_none (came_by names behind number a.outputs o)
    ∙ ap (λ n. came_by names behind n a.outputs o) (let none : number ≡ number + 0 = omega arith in none)
came_pushed names behind number (first ∷ asks) a o =
    let one = came_by names behind number first.outputs o in
    let same : (number + 1) + length asks ≡ number + length (first ∷ asks) = omega arith in
    ap (option_or one) (came_pushed names behind (number + 1) asks a o)
    ∙ or_assoc one (came_for names behind (number + 1) asks o) (came_by names behind ((number + 1) + length asks) a.outputs o)
    ∙ ap (λ n. option_or (option_or one (came_for names behind (number + 1) asks o)) (came_by names behind n a.outputs o)) same

module _ (names : List (List ℕ)) (behind : List Entry) (number : ℕ) where
  pub none_noted : (asks : List DreamAsk) (p : Progress) → HasNoted names behind number (take 0 asks) p p
  none_noted asks p = record { real = refl; taken = sym (append-nil p.taken); values = λ o. sym (or_none (got p o)) }

  pub all_noted : (asks : List DreamAsk) (k : ℕ) (old now : Progress) → length asks ≤ k
      → HasNoted names behind number (take k asks) old now → HasNoted names behind number asks old now
  all_noted asks k old now past h = subst (λ list. HasNoted names behind number list old now) (take_all k asks past) h

  -- one ask more was made, and this came for it
  pub noted_more : (asks : List DreamAsk) (k : ℕ) (a : DreamAsk) (old now new : Progress) → k < length asks → a ≡ get_or asks k a
      → HasNoted names behind number (take k asks) old now → new.real ≡ now.real → new.taken ≡ now.taken ++ a.instance ∷ []
      → ((o : ℕ) → got new o ≡ option_or (got now o) (came_by names behind (number + k) a.outputs o))
      → HasNoted names behind number (take (k + 1) asks) old new
  noted_more asks k a old now new lt is h same_real taken found =
      subst (λ list. HasNoted names behind number list old new) (sym pushed) (record {
        real = same_real ∙ h.real;
        taken = taken ∙ ap (λ is. is ++ a.instance ∷ []) h.taken
            ∙ append_assoc old.taken (asked_instances (take k asks)) (a.instance ∷ [])
            ∙ ap (λ is. old.taken ++ is) (sym (map-append (λ (x : DreamAsk). x.instance) (take k asks) (a ∷ [])));
        values = λ o. found o ∙ ap (λ g. option_or g (came_by names behind (number + k) a.outputs o)) (h.values o)
            ∙ sym (or_assoc (got old o) (came_for names behind number (take k asks) o) (came_by names behind (number + k) a.outputs o))
            ∙ ap (λ n. option_or (got old o)
            (option_or (came_for names behind number (take k asks) o) (came_by names behind (number + n) a.outputs o))) (sym long)
            ∙ ap (option_or (got old o)) (sym (came_pushed names behind number (take k asks) a o));
      })
    where
      pushed : take (k + 1) asks ≡ take k asks ++ a ∷ []
      pushed = rw add-one (take-suc asks k a lt ∙ ap (λ y. take k asks ++ y ∷ []) (sym is))

      long : length (take k asks) ≡ k
      long = length-take-le k asks (omega (arith, lt))

-- ---- by the transcript

module _ (version : ℕ) (task : Task) (before behind : List Entry) (table : List (List ℕ)) (number : ℕ) (asks : List DreamAsk)
    (made : WereMade version task before behind table number (length asks)) where
  -- what came before stays
  came_still : (sent : List Sent) → All (λ (s : Sent). s.number ≤ asks_of before) sent → (o : ℕ)
      → came task before sent o ≡ came task (before ++ behind) sent o
  came_still [] low o = refl
  came_still (s ∷ sent) low o = λ i.
      option_or (option_and_then (λ objects. paired s.outputs objects o)
      (sym (stays version task before behind s made.fit made.legal (low_first low) (made.closed s.number)) i))
      (came_still sent (low_rest low) o i)
    where
      low_first : All (λ (x : Sent). x.number ≤ asks_of before) (s ∷ sent) → s.number ≤ asks_of before
      low_first all = all 0 s (omega arith)

      low_rest : All (λ (x : Sent). x.number ≤ asks_of before) (s ∷ sent) → All (λ (x : Sent). x.number ≤ asks_of before) sent
      low_rest all = λ k d lt. all (suc k) d (omega (arith, lt))

  -- what came for these asks
  came_now : (list : List DreamAsk) (n : ℕ) → asks_of before < n → (o : ℕ)
      → came_for table behind n list o ≡ came task (before ++ behind) (numbered n list) o
  came_now [] n later o = refl
  came_now (a ∷ list) n later o = λ i.
      option_or (option_and_then (λ objects. paired a.outputs objects o)
      ((ap (λ ns. objects_for ns behind n (length a.outputs)) made.names
      ∙ objects_came version task before behind n (length a.outputs) made.legal later) i))
      (came_now list (n + 1) (omega (arith, later)) o i)

  numbers_low : (list : List DreamAsk) (n most : ℕ) → n + length list ≤ most + 1 → All (λ (s : Sent). s.number ≤ most) (numbered n list)
  numbers_low [] n most fits = All-nil (λ (s : Sent). s.number ≤ most)
  numbers_low (a ∷ list) n most fits =
      All-cons (λ (s : Sent). s.number ≤ most) (record { number = n; instance = a.instance; outputs = a.outputs })
      (numbered (n + 1) list) (omega (arith, fits)) (numbers_low list (n + 1) most (omega (arith, fits)))

  all_lower : (sent : List Sent) → All (λ (s : Sent). s.number ≤ asks_of before) sent
      → All (λ (s : Sent). s.number ≤ asks_of (before ++ behind)) sent
  all_lower sent low = λ k d lt. omega (arith, low k d lt, asks_more before behind)

  pub notes_answers : (old new : Progress) (sent : List Sent) → HasNoted table behind number asks old new
      → IsProgress task before old sent → IsProgress task (before ++ behind) new (sent ++ numbered number asks)
  notes_answers old new sent h is = record {
    taken = h.taken ∙ (λ i. is.taken i ++ sym (numbered_instances asks number) i)
        ∙ sym (map-append (λ (s : Sent). s.instance) sent (numbered number asks));
    made = All-append (λ (s : Sent). s.number ≤ asks_of (before ++ behind)) sent (numbered number asks) (all_lower sent is.made)
        (numbers_low asks number (asks_of (before ++ behind)) (omega (arith, made.first, made.many)));
    values = λ o. h.values o
        ∙ (λ i. option_or ((is.values o ∙ came_still sent is.made o) i)
        (came_now asks number (omega (arith, made.first)) o i))
        ∙ sym (came_joined task (before ++ behind) sent (numbered number asks) o);
  }
