-- What is kept of all children agrees with the calls, call by call.
use Rattle.std.proofs.Common.{◌≡◌, ◌≢◌, ℕ, zero, suc, ◌<◌, true, false, List, [], ◌∷◌, ◌++◌, length, map, replicate, slice_get, slice_set, string_bytes, String, Vec, Option, Some, None, Result, Ok, Err, MatchResult, IfOk, OnOk, is_ok, refl, sym, ap, subst, ◌∙◌, arith, All, inl, inr, get_or}
use Rattle.std.specs.declared.alloc.Global.{Global}
use Rattle.std.proofs.lemmas.Bool.{eq-eqb}
use Rattle.std.proofs.lemmas.Bool.Decides.{eqb_tells}
use Rattle.std.proofs.lemmas.List.{take_all}
use Rattle.gen_lines.specs.Lines.{unfinished}
use Rattle.io_world.specs.Replies.{HasLine, IsLine}
use Rattle.io_world.specs.Logs.{Calls}
use Rattle.io_world.specs.Talks.{Event, LogGrows, heard, silence, spelled, started, stopped, wrote}
use Rattle.io_world.specs.declared.host.HostFault.{HostFault}
use Rattle.io_world.specs.declared.host.HostFault.TheVariants.{Failed, Memory}
use Rattle.restart_host.proofs.CourseLemmas.{moment_join, moment_other}
use Rattle.restart_host.proofs.FeedLemmas.{rest_line, rest_on}
use Rattle.restart_host.proofs.FitsLemmas.{fits_revived}
use Rattle.restart_host.proofs.UsesLemmas.{ReadLess, WroteMore, part_missed, part_other, part_read, part_started, part_wrote, read_none, read_some, read_waits, waiting_other, waiting_started, words_kept, words_other, words_read, words_started, wrote_all, wrote_none, wrote_waits}
use Rattle.restart_host.specs.Fits.{Fits}
use Rattle.restart_host.specs.Kept.{IsNew}
use Rattle.restart_host.specs.Lives.{Moment, moment_after, moment_by, moment_of}
use Rattle.restart_host.specs.Noted.{IsCallNoted}
use Rattle.restart_host.specs.Steps.{Brought, GivesBytes, IsBringing, Reads}
use Rattle.restart_host.specs.Tied.{IsTied}
use Rattle.restart_host.specs.Tries.{IsOn}
use Rattle.restart_host.specs.Uses.{AreOfLine, AreStarts, Completes, IsDone, IsRequest, IsWriting, child_in, part_of, waiting, words_of}
use Rattle.restart_host.specs.declared.kept.Kept.{Kept}
use Rattle.restart_host.specs.declared.kept.Life.{Life}

-- a call that is noted where the log stays whole
pub noted_so : {T : Type 0} (old new : Calls) (event : Event) (result : Result T HostFault) → IsCallNoted old new event result
    → new.whole ≡ true → new.events ≡ old.events ++ event ∷ []
noted_so old new event result is whole = elim is.noted [
  | inl noted ↦ noted.events
  | inr lost ↦ absurd (cc (lost.1.whole, whole))
]

get_here : {A : Type 0} (xs : List A) (i : ℕ) (x : A) → i < length xs → slice_get (slice_set xs i x) i ≡ Some x
get_here [] i x within = absurd (omega arith)
get_here (y ∷ ys) zero x within = refl
get_here (y ∷ ys) (suc i) x within = get_here ys i x (omega arith)

get_other : {A : Type 0} (xs : List A) (i k : ℕ) (x : A) → k ≢ i → slice_get (slice_set xs i x) k ≡ slice_get xs k
get_other [] i k x other = refl
get_other (y ∷ ys) zero zero x other = absurd (other refl)
get_other (y ∷ ys) zero (suc k) x other = refl
get_other (y ∷ ys) (suc i) zero x other = refl
get_other (y ∷ ys) (suc i) (suc k) x other = get_other ys i k x (λ same. other (ap suc same))

pub get_at : {A : Type 0} (xs : List A) (i : ℕ) (x : A) → i < length xs → x ≡ get_or xs i x → slice_get xs i ≡ Some x
get_at [] i x within is = absurd (omega arith)
get_at (y ∷ ys) zero x within is = ap Some (sym is)
get_at (y ∷ ys) (suc i) x within is = get_at ys i x (omega arith) is

same_kept : (xs : List Kept) (i : ℕ) (now kept : Kept) → i < length xs → slice_get (slice_set xs i now) i ≡ Some kept → now ≡ kept
same_kept xs i now kept within is = cc (get_here xs i now within, is)

-- one child was called
module _ (children : List Kept) (i : ℕ) (now : Kept) (calls : List Event) (event : Event) (below_old below_new : Option (List Event))
    (events : List Event) (words : List (List ℕ)) (within : i < length children) (own : child_in event ≡ i)
    (tied : IsTied children calls below_old) (grows : LogGrows below_old below_new events) (on : All (IsOn i words) events)
    (own_words : now.running ≡ true → map string_bytes now.words.items ≡ words_of i (calls ++ event ∷ []))
    (own_lives : (past : List Event) (waits : List ℕ) → now.running ≡ true → below_old ≡ Some past
    → waiting i (calls ++ event ∷ []) ≡ Some waits
    → (now.asked.items ≡ waits) × Fits (part_of i (calls ++ event ∷ [])) waits now.life (moment_by i (moment_of i past) events)) where
  told : (below : Option (List Event)) → LogGrows below_old below events → (past : List Event) → below ≡ Some past
      → (before : List Event) × (below_old ≡ Some before) × (past ≡ before ++ events)
  told None grew past is = absurd (cc (is))
  told (Some after) grew past is = let same : after ≡ past = cc (is) in (grew.0, grew.1, sym same ∙ grew.2)

  new_words : (k : ℕ) (kept : Kept) → slice_get (slice_set children i now) k ≡ Some kept → kept.running ≡ true
      → map string_bytes kept.words.items ≡ words_of k (calls ++ event ∷ [])
  new_words k kept at runs = elim (eqb_tells k i) [
    | inl same ↦
        let here : now ≡ kept = same_kept children i now kept within (subst (λ j. slice_get (slice_set children i now) j ≡ Some kept) same.1 at) in
        let is = own_words (ap (λ (x : Kept). x.running) here ∙ runs) in
        ap (λ (x : Kept). map string_bytes x.words.items) (sym here) ∙ is
        ∙ ap (λ j. words_of j (calls ++ event ∷ [])) (sym same.1)
    | inr other ↦
        tied.words k kept (sym (get_other children i k now other.1) ∙ at) runs ∙ sym (words_other k i calls event own other.1)
  ]

  new_lives : (k : ℕ) (kept : Kept) (past : List Event) (waits : List ℕ) → slice_get (slice_set children i now) k ≡ Some kept
      → kept.running ≡ true → below_new ≡ Some past → waiting k (calls ++ event ∷ []) ≡ Some waits
      → (kept.asked.items ≡ waits) × Fits (part_of k (calls ++ event ∷ [])) waits kept.life (moment_of k past)
  new_lives k kept past waits at runs below waits_is =
      let before = told below_new grows past below in
      let joined : moment_of k past ≡ moment_by k (moment_of k before.0) events =
      ap (moment_of k) before.2 ∙ moment_join k _ before.0 events in
      let Here : ℕ → Kept → Moment → Type 0 =
      λ j x m. (x.asked.items ≡ waits) × Fits (part_of j (calls ++ event ∷ [])) waits x.life m in
      subst (λ (m : Moment). Here k kept m) (sym joined) (elim (eqb_tells k i) [
        | inl same ↦
            let here : now ≡ kept = same_kept children i now kept within (subst (λ j. slice_get (slice_set children i now) j ≡ Some kept) same.1 at) in
            let is = own_lives before.0 waits (ap (λ (x : Kept). x.running) here ∙ runs) before.1
            (ap (λ j. waiting j (calls ++ event ∷ [])) (sym same.1) ∙ waits_is) in
            subst (λ (x : Kept). Here k x (moment_by k (moment_of k before.0) events)) here
            (subst (λ j. Here j now (moment_by j (moment_of j before.0) events)) (sym same.1) is)
        | inr other ↦
            let was = tied.lives k kept before.0 waits (sym (get_other children i k now other.1) ∙ at) runs before.1
            (sym (waiting_other k i calls event own other.1) ∙ waits_is) in (
              was.0,
              subst (λ (m : Moment). Fits (part_of k (calls ++ event ∷ [])) waits kept.life m)
                  (sym (moment_other k i words (moment_of k before.0) events other.1 on))
                  (subst (λ part. Fits part waits kept.life (moment_of k before.0)) (sym (part_other k i calls event own other.1))
                  was.1),
            )
      ])

  pub tied_set : IsTied (slice_set children i now) (calls ++ event ∷ []) below_new
  tied_set = record { words = new_words; lives = new_lives }

-- ---- starts

starts_end : (child : ℕ) (words : List (List ℕ)) (m : Moment) (n : ℕ)
    → (moment_by child m (replicate n (started child words (Err Failed)) ++ started child words (Ok tt) ∷ [])).talk ≡ silence
starts_end child words m zero = rw (eq-eqb child child refl) refl
starts_end child words m (suc n) = starts_end child words (moment_after child m (started child words (Err Failed))) n

pub tied_started : (children : List Kept) (i : ℕ) (now : Kept) (calls : List Event) (words : List (List ℕ))
    (result : Result (Unit {0}) HostFault) (below_old below_new : Option (List Event)) (events : List Event)
    → i < length children → IsTied children calls below_old → LogGrows below_old below_new events → All (IsOn i words) events
    → now.running ≡ is_ok result → OnOk result (IsNew words now) → AreStarts i words result events
    → IsTied (slice_set children i now) (calls ++ started i words result ∷ []) below_new
tied_started children i now calls words (Ok u) below_old below_new events within tied grows on runs new starts =
    tied_set children i now calls (started i words (Ok tt)) below_old below_new events words within refl tied grows on
    (λ is. new.words_are ∙ sym (words_started i words calls))
    (λ past waits is below waits_is.
    let same : [] ≡ waits = cc (waiting_started i words calls, waits_is) in
    let talk : (moment_by i (moment_of i past) events).talk ≡ silence =
    ap (λ zs. (moment_by i (moment_of i past) zs).talk) starts.1 ∙ starts_end i words (moment_of i past) starts.0 in (
      new.asked ∙ same,
      subst (λ part. Fits part waits now.life (moment_by i (moment_of i past) events)) (sym (part_started i words calls))
          (subst (λ ws. Fits [] ws now.life (moment_by i (moment_of i past) events)) same
          (fits_revived [] [] now.life (moment_by i (moment_of i past) events) talk new.alive new.held new.due (λ x. refl)
          (λ x. refl))),
    ))
tied_started children i now calls words (Err fault) below_old below_new events within tied grows on runs new starts =
    tied_set children i now calls (started i words (Err fault)) below_old below_new events words within refl tied grows on
    (λ is. absurd (cc (is, runs)))
    (λ past waits is below waits_is. absurd (cc (is, runs)))

-- ---- stops

pub tied_stopped : (children : List Kept) (i : ℕ) (now : Kept) (calls : List Event) (words : List (List ℕ))
    (below_old below_new : Option (List Event)) (events : List Event)
    → i < length children → IsTied children calls below_old → LogGrows below_old below_new events → All (IsOn i words) events
    → now.running ≡ false → IsTied (slice_set children i now) (calls ++ stopped i (Ok tt) ∷ []) below_new
tied_stopped children i now calls words below_old below_new events within tied grows on ended =
    tied_set children i now calls (stopped i (Ok tt)) below_old below_new events words within refl tied grows on
    (λ is. absurd (cc (is, ended)))
    (λ past waits is below waits_is. absurd (cc (is, ended)))

-- ---- writes

written : (child : ℕ) (words : List (List ℕ)) (asked bytes : List ℕ) (life : Life) (result : Result ℕ HostFault) (m : Moment)
    (events : List Event) → Brought child asked bytes life result m events → All (IsOn child words) events
    → IsWriting child words asked bytes result m events
written child words asked bytes life (Ok n) m events b each =
    record { bringing = record { on = each; unread = b.unread; course = b.course }; whole = b.whole }
written child words asked bytes life (Err fault) m events b each =
    record { on = each; unread = b.unread; course = b.course }

-- what is kept once a write was noted
wrote_fits : (child : ℕ) (asked bytes waits : List ℕ) (now : Kept) (result : Result ℕ HostFault) (m : Moment)
    (events : List Event) → WroteMore asked bytes waits result → IfOk result (λ n. n ≡ length bytes)
    → Brought child asked bytes now.life result m events → Fits [] waits now.life (moment_by child m events)
wrote_fits child asked bytes waits now (Ok n) m events (wrote_all line is) all b =
    subst (λ bs. Fits [] bs now.life (moment_by child m events))
    (ap (λ bs. asked ++ bs) (sym (take_all n bytes (omega (arith, all)))) ∙ is) b.done
wrote_fits child asked bytes waits now (Err Failed) m events (wrote_none line is) all b =
    subst (λ bs. Fits [] bs now.life (moment_by child m events)) is (b.fell refl)
wrote_fits child asked bytes waits now (Err Memory) m events more all b = elim more [ ]

wrote_asked : (asked bytes waits : List ℕ) (was now : Kept) (result : Result ℕ HostFault) → WroteMore asked bytes waits result
    → IfOk result (λ n. n ≡ length bytes) → was.asked.items ≡ asked
    → MatchResult result (λ n. now.asked.items ≡ was.asked.items ++ bytes) (λ fault. now.asked.items ≡ was.asked.items)
    → now.asked.items ≡ waits
wrote_asked asked bytes waits was now (Ok n) (wrote_all line is) all own kept =
    kept ∙ ap (λ bs. bs ++ bytes) own ∙ ap (λ bs. asked ++ bs) (sym (take_all n bytes (omega (arith, all)))) ∙ is
wrote_asked asked bytes waits was now (Err Failed) (wrote_none line is) all own kept = kept ∙ own ∙ is
wrote_asked asked bytes waits was now (Err Memory) more all own kept = elim more [ ]

wrote_line : (asked bytes waits : List ℕ) (result : Result ℕ HostFault) → WroteMore asked bytes waits result → IsLine asked
wrote_line asked bytes waits (Ok n) (wrote_all line is) = line
wrote_line asked bytes waits (Err Failed) (wrote_none line is) = line
wrote_line asked bytes waits (Err Memory) more = elim more [ ]

module _ (children : List Kept) (i : ℕ) (was now : Kept) (calls : List Event) (bytes : List ℕ) (result : Result ℕ HostFault)
    (below_old below_new : Option (List Event)) (events : List Event) (within : i < length children)
    (at : slice_get children i ≡ Some was) (runs : was.running ≡ true) (tied : IsTied children calls below_old)
    (grows : LogGrows below_old below_new events) (on : All (IsOn i (map string_bytes was.words.items)) events)
    (same_words : now.words ≡ was.words) (all : IfOk result (λ n. n ≡ length bytes))
    (asked_is : MatchResult result (λ n. now.asked.items ≡ was.asked.items ++ bytes) (λ fault. now.asked.items ≡ was.asked.items))
    (brings : IsBringing i was.asked.items bytes was.life now.life result events) where
  -- what is brought from where the child stood
  brought : (past : List Event) (asked : List ℕ) → below_old ≡ Some past → waiting i calls ≡ Some asked → IsLine asked
      → (part_of i calls ≡ []) × Brought i asked bytes now.life result (moment_of i past) events
  brought past asked below waits line =
      let kept = tied.lives i was past asked at runs below waits in
      let own : was.asked.items ≡ asked = kept.0 in
      let fits = kept.1 in
      let none : part_of i calls ≡ [] = fits.idle line in (
        none,
        subst (λ bs. Brought i bs bytes now.life result (moment_of i past) events) own
            (brings (moment_of i past) (subst IsLine (sym own) line)
            (subst (λ bs. Fits [] bs was.life (moment_of i past)) (sym own)
            (subst (λ part. Fits part asked was.life (moment_of i past)) none fits))),
      )

  pub wrote_done : 0 < length bytes → (past : List Event) → below_old ≡ Some past
      → IsDone calls past (wrote i bytes result) events
  wrote_done some past below = (
    some,
    all,
    subst (λ ws. All (IsOn i ws) events) (tied.words i was at runs) on,
    λ asked waits line.
        let b = brought past asked below waits line in
        written i (words_of i calls) asked bytes now.life result (moment_of i past) events b.1
        (subst (λ ws. All (IsOn i ws) events) (tied.words i was at runs) on),
  )

  pub tied_wrote : now.running ≡ true → IsTied (slice_set children i now) (calls ++ wrote i bytes result ∷ []) below_new
  tied_wrote still =
      tied_set children i now calls (wrote i bytes result) below_old below_new events (map string_bytes was.words.items) within refl
      tied grows on
      (λ is. ap (λ (ws : Vec (String Global) Global). map string_bytes ws.items) same_words ∙ tied.words i was at runs ∙ sym (words_kept i i calls bytes result))
      (λ past waits is below waits_is.
      let before = wrote_waits i calls bytes waits result waits_is in
      let b = brought past before.0 below before.1 (wrote_line before.0 bytes waits result before.2) in (
        wrote_asked before.0 bytes waits was now result before.2 all (tied.lives i was past before.0 at runs below before.1).0
            asked_is,
        subst (λ part. Fits part waits now.life (moment_by i (moment_of i past) events))
            (sym (part_wrote i calls bytes result ∙ b.0))
            (wrote_fits i before.0 bytes waits now result (moment_of i past) events before.2 all b.1),
      ))

-- ---- reads

-- what is kept once a read was noted
read_fits : (child room : ℕ) (calls : List Event) (asked waits : List ℕ) (now : Kept) (answer : Result (List ℕ) HostFault)
    (m : Moment) (events : List Event) → ReadLess asked waits answer → Reads child (part_of child calls) asked now answer m events
    → Fits (part_of child (calls ++ heard child room answer ∷ [])) waits now.life (moment_by child m events)
    × (now.asked.items ≡ waits)
read_fits child room calls asked waits now (Ok bytes) m events (read_some has is) reads =
    let part : unfinished (part_of child calls ++ bytes) ≡ part_of child (calls ++ heard child room (Ok bytes) ∷ []) =
    sym (part_read child room calls bytes ∙ rest_on (spelled child silence calls).heard bytes) in
    let own : now.asked.items ≡ waits = reads.gives.3 ∙ is in (
      subst (λ bs. Fits bs waits now.life (moment_by child m events)) part
          (subst (λ bs. Fits (unfinished (part_of child calls ++ bytes)) bs now.life (moment_by child m events)) own reads.gives.2),
      own,
    )
read_fits child room calls asked waits now (Err Failed) m events (read_none has is) reads =
    let kept = reads.fell refl in (
      subst (λ bs. Fits bs waits now.life (moment_by child m events)) (sym (part_missed child room calls Failed))
          (subst (λ bs. Fits (part_of child calls) bs now.life (moment_by child m events)) is kept.0),
      kept.1 ∙ is,
    )
read_fits child room calls asked waits now (Err Memory) m events less reads = elim less [ ]

read_has : (asked waits : List ℕ) (answer : Result (List ℕ) HostFault) → ReadLess asked waits answer → HasLine asked
read_has asked waits (Ok bytes) (read_some has is) = has
read_has asked waits (Err Failed) (read_none has is) = has
read_has asked waits (Err Memory) less = elim less [ ]

gives_more : (child : ℕ) (before asked : List ℕ) (now : Kept) (answer : Result (List ℕ) HostFault) (m : Moment)
    (events : List Event) → Reads child before asked now answer m events
    → IfOk answer (λ bytes. length before < 1025 → IsRequest asked → Completes asked before bytes (moment_by child m events))
gives_more child before asked now (Ok bytes) m events reads = reads.gives.1
gives_more child before asked now (Err fault) m events reads = tt

gives_one : (child : ℕ) (before asked : List ℕ) (now : Kept) (answer : Result (List ℕ) HostFault) (m : Moment)
    (events : List Event) → Reads child before asked now answer m events → IfOk answer AreOfLine
gives_one child before asked now (Ok bytes) m events reads = reads.gives.0
gives_one child before asked now (Err fault) m events reads = tt

module _ (children : List Kept) (i room : ℕ) (was now : Kept) (calls : List Event) (answer : Result (List ℕ) HostFault)
    (below_old below_new : Option (List Event)) (events : List Event) (within : i < length children)
    (at : slice_get children i ≡ Some was) (runs : was.running ≡ true) (tied : IsTied children calls below_old)
    (grows : LogGrows below_old below_new events) (on : All (IsOn i (map string_bytes was.words.items)) events)
    (same_words : now.words ≡ was.words) (reads : GivesBytes i was now answer events) where
  -- what is read from where the child stood
  read_from : (past : List Event) (asked : List ℕ) → below_old ≡ Some past → waiting i calls ≡ Some asked → HasLine asked
      → Reads i (part_of i calls) asked now answer (moment_of i past) events
  read_from past asked below waits has =
      let kept = tied.lives i was past asked at runs below waits in
      subst (λ bs. Reads i (part_of i calls) bs now answer (moment_of i past) events) kept.0
      (reads (moment_of i past) (part_of i calls) (rest_line (spelled i silence calls).heard) (subst HasLine (sym kept.0) has)
      (subst (λ bs. Fits (part_of i calls) bs was.life (moment_of i past)) (sym kept.0) kept.1))

  pub read_done : IfOk answer (λ bytes. 0 < length bytes) → (past : List Event) → below_old ≡ Some past
      → IsDone calls past (heard i room answer) events
  read_done some past below =
      let each = subst (λ ws. All (IsOn i ws) events) (tied.words i was at runs) on in (
        some,
        each,
        λ asked waits has.
            let from = read_from past asked below waits has in
            record {
              fetching = record { on = each; course = from.course };
              one = gives_one i (part_of i calls) asked now answer (moment_of i past) events from;
              gives = gives_more i (part_of i calls) asked now answer (moment_of i past) events from;
            },
      )

  pub tied_read : now.running ≡ true → IsTied (slice_set children i now) (calls ++ heard i room answer ∷ []) below_new
  tied_read still =
      tied_set children i now calls (heard i room answer) below_old below_new events (map string_bytes was.words.items) within refl
      tied grows on
      (λ is. ap (λ (ws : Vec (String Global) Global). map string_bytes ws.items) same_words ∙ tied.words i was at runs ∙ sym (words_read i i room calls answer))
      (λ past waits is below waits_is.
      let before = read_waits i room calls waits answer waits_is in
      let fits = read_fits i room calls before.0 waits now answer (moment_of i past) events before.2
      (read_from past before.0 below before.1 (read_has before.0 waits answer before.2)) in
      (fits.1, fits.0))
