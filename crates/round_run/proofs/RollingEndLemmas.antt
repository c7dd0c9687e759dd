-- Rounds that are begun, answered and ended.
use Rattle.std.proofs.Common.{◌≡◌, ℕ, zero, suc, ◌+◌, arith, Bool, true, false, not, ◌&&◌, List, [], ◌∷◌, ◌++◌, length, Option, Some, None, refl, sym, subst, ap, ◌∙◌, append_assoc, slice_get, option_map, is_none, unwrap_or}
use Rattle.std.proofs.lemmas.Bool.{lt-ltb, le-ltb}
use Rattle.std.proofs.lemmas.Option.{slice_get-map, slice_get_within}
use Rattle.std.specs.List.{cons_option}
use Rattle.instance_queue.specs.Level.{due_instances}
use Rattle.instance_queue.specs.declared.due.Due.{Due}
use Rattle.task_model.specs.declared.task.Task.{Task}
use Rattle.transcript_model.specs.Rounds.{IsRound}
use Rattle.transcript_model.specs.declared.entry.Entry.{Entry}
use Rattle.transcript_model.specs.declared.entry.Entry.TheVariants as entry
use Rattle.session_core.proofs.RoundBeginLemmas.{child_served, children_distinct}
use Rattle.pools.specs.Pools.{HasChild, Workers}
use Rattle.session_core.specs.Session.{IsSession, MayBeginRound, round_begun}
use Rattle.session_core.specs.Slots.{Slot, answers_of, all_answered, asks_from, slot_for, slots_from}
use Rattle.session_core.specs.State.{State, with_slots}
use Rattle.round_run.proofs.RollingPrintLemmas.{round_is}
use Rattle.round_run.proofs.StoppedLemmas.{goes_then}
use Rattle.round_run.specs.Rolling.{Goes, IsRolling, IsSameRound, finished_round}
use Rattle.round_run.specs.Batches.{AllRun}

-- ---- a round that is answered

with_answer : (t : Slot) (ts : List Slot) (o : Option Entry) → t.answer ≡ o
    → is_none t.answer ≡ false
    → (all_answered ts ≡ true) × (finished_round ts ≡ answers_of ts) → (all_answered (t ∷ ts) ≡ true) × (finished_round (t ∷ ts) ≡ answers_of (t ∷ ts))
with_answer t ts None is some rest =
    absurd (let bad : true ≡ false = sym (ap is_none is) ∙ some in cc)
with_answer t ts (Some e) is some rest = (
  ap (λ o. not (is_none o) && all_answered ts) is ∙ rest.0,
  (λ i. unwrap_or (is i) (entry.End t.number) ∷ rest.1 i) ∙ ap (λ o. cons_option o (answers_of ts)) (sym is),
)

all_by : (slots : List Slot)
    → ((k : ℕ) (t : Slot) → slice_get slots k ≡ Some t → is_none t.answer ≡ false)
    → (all_answered slots ≡ true) × (finished_round slots ≡ answers_of slots)
all_by [] each = (refl, refl)
all_by (t ∷ ts) each =
    with_answer t ts t.answer refl (each 0 t refl) (all_by ts (λ k u at. each (suc k) u at))

pub all_heard : (s : State) (running : ℕ → Bool) (count : ℕ) → count ≡ length s.slots
    → IsRolling s running count count
    → (all_answered s.slots ≡ true) × (finished_round s.slots ≡ answers_of s.slots)
all_heard s running count is r =
    all_by s.slots (λ k t at. r.each_open k t at ∙ ap not (lt-ltb k count (omega (arith, is, slice_get_within s.slots k t at))))

-- ---- a round that was begun

fresh_at : (task : Task) (names : List (List ℕ)) (version : ℕ) (pools : List Workers) (n : ℕ) (before : List ℕ) (dues : List Due)
    (k : ℕ) (t : Slot)
    → slice_get (slots_from task names version pools n before dues) k ≡ Some t → (t.sent ≡ false) × (t.answer ≡ None)
fresh_at task names version pools n before [] k t at = absurd (cc)
fresh_at task names version pools n before (d ∷ ds) zero t at =
    let same : slot_for task names version pools n before d ≡ t = cc in
    (ap (λ (v : Slot). v.sent) (sym same), ap (λ (v : Slot). v.answer) (sym same))
fresh_at task names version pools n before (d ∷ ds) (suc k) t at =
    fresh_at task names version pools (n + 1) (before ++ d.instance.stream ∷ []) ds k t at

pub as_long : (task : Task) (names : List (List ℕ)) (version : ℕ) (pools : List Workers) (n : ℕ) (before : List ℕ) (dues : List Due)
    → length (asks_from task names n dues) ≡ length (slots_from task names version pools n before dues)
as_long task names version pools n before [] = refl
as_long task names version pools n before (d ∷ ds) =
    ap suc (as_long task names version pools (n + 1) (before ++ d.instance.stream ∷ []) ds)

pub slots_long : (task : Task) (names : List (List ℕ)) (version : ℕ) (pools : List Workers) (n : ℕ) (before : List ℕ) (dues : List Due)
    → length (slots_from task names version pools n before dues) ≡ length dues
slots_long task names version pools n before [] = refl
slots_long task names version pools n before (d ∷ ds) =
    ap suc (slots_long task names version pools (n + 1) (before ++ d.instance.stream ∷ []) ds)

pub rolling_begun : (task : Task) (s : State) (dues : List Due) (running : ℕ → Bool)
    → s.failed ≡ false → MayBeginRound task s dues
    → IsSession task s → AllRun s.pools running → IsRolling (round_begun task s dues) running 0 0
rolling_begun task s dues running works may h all = record {
  working = works;
  begun = refl;
  asks = as_long task s.known.names s.version s.pools (length s.asked + 1) [] dues;
  apart = children_distinct task s dues works may h s.known.names s.version (length s.asked + 1);
  each_sent =
      λ k t at. (fresh_at task s.known.names s.version s.pools (length s.asked + 1) [] dues k t at).0 ∙ sym (le-ltb k 0 (omega arith));
  each_open =
      λ k t at. ap is_none (fresh_at task s.known.names s.version s.pools (length s.asked + 1) [] dues k t at).1
      ∙ sym (ap not (le-ltb k 0 (omega arith)));
  low = λ k t at. let p = served k t at in omega (arith, h.pools.few p.0 p.1 p.2, p.3.to);
  runs = λ k t at. let p = served k t at in all p.0 t.child p.1 p.2 p.3;
}
  where
    served : (k : ℕ) (t : Slot)
        → slice_get (slots_from task s.known.names s.version s.pools (length s.asked + 1) [] dues) k ≡ Some t
        → (j : ℕ) × (p : Workers) × (slice_get s.pools j ≡ Some p) × HasChild p t.child
    served k t at =
        child_served task s dues works may h s.known.names s.version (length s.asked + 1) k t.child
        (slice_get-map (λ (v : Slot). v.child) (slots_from task s.known.names s.version s.pools (length s.asked + 1) [] dues) k
        ∙ ap (option_map (λ (v : Slot). v.child)) at)

-- ---- a round that ends

-- what a round leaves, once it is closed
pub record RoundEnd (task : Task) (s x : State) (dues : List Due) (old new : Option (List ℕ)) : Type 0 where
  pub version : x.version ≡ s.version
  pub pools : x.pools ≡ s.pools
  pub more : List Entry
  pub entries : x.entries ++ x.asks ++ answers_of x.slots ≡ s.entries ++ more
  pub round : IsRound task s.entries (due_instances dues) more
  pub goes : Goes s.entries (x.entries ++ x.asks ++ answers_of x.slots) old new

pub round_end : (task : Task) (s b m x : State) (dues : List Due) (old mid new : Option (List ℕ))
    → b ≡ round_begun task s dues → IsSameRound b m
    → IsSameRound m x → x.is_open ≡ true → IsSession task x → finished_round x.slots ≡ answers_of x.slots
    → Goes b.entries (b.entries ++ b.asks) old mid → Goes (m.entries ++ m.asks) (m.entries ++ m.asks ++ finished_round x.slots) mid new
    → RoundEnd task s x dues old new
round_end task s b m x dues old mid new starts first second is_open_now h all goes later = record {
  version = ap (λ (y : State). y.version) x_is;
  pools = ap (λ (y : State). y.pools) x_is;
  more = (round_begun task s dues).asks ++ finished_round x.slots;
  entries = entries_are ∙ append_assoc s.entries (round_begun task s dues).asks (finished_round x.slots);
  round = subst (λ (y : State). IsRound task y.entries y.instances (y.asks ++ finished_round x.slots)) x_is (round_is task x is_open_now h);
  goes = subst (λ es. Goes s.entries es old new) (sym entries_are)
      (goes_then s.entries (s.entries ++ (round_begun task s dues).asks) (s.entries ++ (round_begun task s dues).asks ++ finished_round x.slots) old mid new
      (subst (λ (y : State). Goes y.entries (y.entries ++ y.asks) old mid) starts goes)
      (subst (λ (y : State). Goes (y.entries ++ y.asks) (y.entries ++ y.asks ++ finished_round x.slots) mid new) m_is later));
}
  where
    m_is : m ≡ with_slots (round_begun task s dues) m.slots m.failed
    m_is = first ∙ ap (λ (y : State). with_slots y m.slots m.failed) starts

    x_is : x ≡ with_slots (round_begun task s dues) x.slots x.failed
    x_is = second ∙ ap (λ (y : State). with_slots y x.slots x.failed) m_is

    entries_are : x.entries ++ x.asks ++ answers_of x.slots ≡ s.entries ++ (round_begun task s dues).asks ++ finished_round x.slots
    entries_are =
        ap (λ es. x.entries ++ x.asks ++ es) (sym all)
        ∙ ap (λ (y : State). y.entries ++ y.asks ++ finished_round x.slots) x_is

-- a round has as many slots as asks
pub count_is : (task : Task) (s b : State) (dues : List Due) (count : ℕ) → count ≡ length dues
    → b ≡ round_begun task s dues
    → count ≡ length b.slots
count_is task s b dues count is starts =
    is ∙ sym (ap (λ (x : State). length x.slots) starts ∙ slots_long task s.known.names s.version s.pools (length s.asked + 1) [] dues)
