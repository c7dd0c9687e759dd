-- Buffers that are filled.
use Rattle.std.proofs.Common.{◌≡◌, ℕ, zero, suc, ◌+◌, ◌<◌, ◌≤◌, arith, Bool, true, false, cond, List, [], ◌∷◌, ◌++◌, length, take, count_by, Option, refl, sym, subst, ap, ◌∙◌, inl, inr, slice_get, unwrap_or, ◌||◌, append-nil, Result, Ok, Err, OnOk}
use Rattle.std.proofs.lemmas.Bool.{cases_lt, or_right}
use Rattle.std.proofs.lemmas.List.{length-append, length-map, length-take-le}
use Rattle.std.proofs.lemmas.List.Folds.{list_any-append}
use Rattle.std.proofs.lemmas.List.Splits.{length-slice_split}
use Rattle.std.specs.Io.BufRead.{strip_last}
use Rattle.std.specs.List.{after_first, list_any, slice_split}
use Rattle.gen_lines.proofs.LinesLemmas.{ended_length}
use Rattle.gen_lines.specs.Lines.{IsFirstShort, ended, is_feed, lines_of}
use Rattle.gen_lines.specs.declared.answer.Why.TheVariants.{TooLong}
use Rattle.io_world.proofs.TalksHeardLemmas.{heard_none}
use Rattle.io_world.specs.Replies.{HasLine}
use Rattle.io_world.specs.Talks.{Talk, Hears}
use Rattle.lemmas.proofs.Counts.{count_joined, count_one}
use Rattle.session_core.specs.Heard.{is_bad_at, number_at}
use Rattle.session_core.specs.Slots.{Slot}
use Rattle.session_core.specs.State.{State, after_line}
use Rattle.round_run.specs.Talking.{Misheard, TakesAnswer}
use Rattle.round_run.specs.declared.fault.RunFault.{RunFault}
use Rattle.round_run.specs.declared.fault.RunFault.TheVariants.{Answer}

feeds : (bytes : List ℕ) → list_any is_feed bytes ≡ true → 1 ≤ count_by is_feed bytes
feeds [] e = absurd (cc)
feeds (b ∷ bs) e = by (feeds bs) (is_feed b) refl e
  where
    by : (list_any is_feed bs ≡ true → 1 ≤ count_by is_feed bs) → (t : Bool) → is_feed b ≡ t
        → (is_feed b || list_any is_feed bs) ≡ true
        → 1 ≤ count_by is_feed (b ∷ bs)
    by later true is any =
        let one : cond {A = ℕ} (is_feed b) 1 0 ≡ 1 = ap (λ t. cond {A = ℕ} t 1 0) is in
        omega (arith, count_joined is_feed (b ∷ []) bs, count_one is_feed b, one)
    by later false is any =
        let rest : list_any is_feed bs ≡ true = ap (λ t. t || list_any is_feed bs) (sym is) ∙ any in
        omega (arith, count_joined is_feed (b ∷ []) bs, later rest)

-- bytes with a line feed have a line
has_line : (bytes : List ℕ) → list_any is_feed bytes ≡ true → lines_of bytes ≡ [] → ⊥
has_line bytes fed none =
    omega (
      arith,
      length-map (ended (slice_split is_feed bytes)) (strip_last 13),
      ap length none,
      ended_length (slice_split is_feed bytes) (omega (arith, length-slice_split is_feed bytes)),
      length-slice_split is_feed bytes,
      feeds bytes fed,
    )

-- where no line came, the buffer is full
pub filled : (held room : List ℕ) (count most : ℕ) → length room + length held ≡ most
    → count ≤ length room
    → (count < length room → HasLine (take count room)) → lines_of (held ++ take count room) ≡ [] → length (held ++ take count room) ≡ most
filled held room count most whole within line none = elim (cases_lt count (length room)) [
  | inl less ↦
      absurd (has_line (held ++ take count room)
      (list_any-append is_feed held (take count room)
      ∙ or_right (list_any is_feed held) (list_any is_feed (take count room)) (line less)) none)
  | inr more ↦ omega (arith, length-append held (take count room), length-take-le count room within, whole, within, more)
]

-- ---- empty buffers

pub none_held : (held : List (List ℕ)) (one : List ℕ)
    → ((k : ℕ) → unwrap_or (slice_get held k) [] ≡ []) → one ≡ [] → (k : ℕ)
    → unwrap_or (slice_get (held ++ one ∷ []) k) [] ≡ []
none_held [] one none is zero = is
none_held [] one none is (suc k) = refl
none_held (x ∷ xs) one none is zero = none zero
none_held (x ∷ xs) one none is (suc k) = none_held xs one (λ j. none (suc j)) is k

-- ---- lines that are held

hears_none : (child : ℕ) (spoken : ℕ → Option Talk) → Hears child [] spoken spoken
hears_none child spoken = record { here = heard_none (spoken child); others = λ k other. refl }

-- a line that was held is taken
pub takes_kept : {T E : Type 0} (r : Result T E) (old new : State) (child : ℕ) (kept left line : List ℕ) (spoken : ℕ → Option Talk)
    → OnOk r (new ≡ after_line old child line false) → OnOk r (is_bad_at old.slots child line ≡ false)
    → lines_of kept ≡ line ∷ lines_of (after_first is_feed kept) → IsFirstShort kept → left ≡ after_first is_feed kept
    → OnOk r (TakesAnswer old child new kept left spoken spoken)
takes_kept (Err e) old new child kept left line spoken after good first short rest = tt
takes_kept (Ok x) old new child kept left line spoken after good first short rest = record {
  more = [];
  heard = hears_none child spoken;
  line = line;
  first = subst (λ bytes. lines_of bytes ≡ line ∷ lines_of (after_first is_feed bytes)) (sym (append-nil kept)) first;
  rest = rest ∙ ap (after_first is_feed) (sym (append-nil kept));
  few = subst IsFirstShort (sym (append-nil kept)) short;
  good = good;
  after = after;
}

-- too many bytes were held
pub too_long_kept : (slots : List Slot) (child : ℕ) (kept : List ℕ) (spoken : ℕ → Option Talk) (fault : RunFault)
    → fault ≡ Answer (number_at slots child) TooLong → lines_of kept ≡ [] → length kept ≡ 1025
    → Misheard slots child kept spoken spoken fault
too_long_kept slots child kept spoken fault is none long =
    subst (Misheard slots child kept spoken spoken) (sym is) (record {
      more = [];
      heard = hears_none child spoken;
      blamed =
          (refl, inr (refl, ap lines_of (append-nil kept) ∙ none, ap length (append-nil kept) ∙ long));
    })
