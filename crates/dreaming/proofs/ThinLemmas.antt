-- From all entries of a list to those that a plan needs, and what is shown of them.
use Rattle.std.proofs.Common.{◌≡◌, ℕ, ◌+◌, ◌<◌, ◌⊎◌, inr, arith, List, [], ◌∷◌, ◌++◌, length, map, take, get_or, refl, sym, ap, subst, ◌∙◌, Some, slice_get, All}
use Rattle.gen_lines.specs.Request.{IsNamed}
use Rattle.std.proofs.lemmas.List.{length-map, map-append, map_more}
use Rattle.std.proofs.lemmas.Option.{slice_get_within}
use Rattle.task_model.proofs.KnownLemmas.{below_names}
use Rattle.std.specs.Ordering.{nat_cmp}
use Rattle.turn_laws.proofs.DreamNamesFreeLemmas.{valid_same}
use Rattle.lemmas.specs.Lists.{AreAscending, numbers_from}
use Rattle.optimistic_set.specs.Dreamable.{Dreamable}
use Rattle.task_model.specs.Dreams as dreams
use Rattle.task_model.specs.Dreams.{supposing, entry_names, instances_of, AreSupposed, HaveSupport, without_entry}
use Rattle.task_model.specs.Known.{Known, IsIn}
use Rattle.task_model.specs.Plans.{IsValid, IsSolvable, IsFar}
use Rattle.task_model.specs.declared.stream.Instance.{Instance}
use Rattle.task_model.specs.declared.task.GroundAction.{GroundAction}
use Rattle.task_model.specs.declared.task.Task.{Task}
use Rattle.transcript_model.specs.Calls.{call_of_step}
use Rattle.transcript_model.specs.Dreaming.{IsDreamAfter}
use Rattle.transcript_model.specs.Names.{call_of_instance}
use Rattle.transcript_model.specs.Rounds.{Limits}
use Rattle.transcript_model.specs.Transcript.{known_of, notes_of}
use Rattle.transcript_model.specs.declared.entry.Call.{Call}
use Rattle.transcript_model.specs.declared.entry.DreamUse.{DreamUse}
use Rattle.transcript_model.specs.declared.entry.Entry.{Entry}
use Rattle.dreaming.proofs.KeptLemmas.{without_is}
use Rattle.dreaming.proofs.PlacesLemmas.{chosen_at, entries_more, length-entries_at, all_below, all_entries, all_ascend, AreBelow}
use Rattle.dreaming.specs.Answers.{ShowsThin, HasSureNoDreamAfter}
use Rattle.dreaming.specs.Parts.{entries_at, IsListed}
use Rattle.dreaming.specs.Thinning.{IsKeptOf, IsThinOf}
use Rattle.dreaming.specs.declared.trial.Kept.{Kept}

module _ (task : Task) (d : Dreamable) (steps : List GroundAction) where
  -- all entries are kept at first
  pub all_kept : (k : Kept) → IsListed task d → k.places.items ≡ numbers_from 0 (length d.list)
      → IsValid task d.known steps k.cost → IsKeptOf task d steps k
  all_kept k h are valid = record {
    below = subst (AreBelow d.list) (sym are) (all_below d.list);
    ascend = subst (λ ps. AreAscending nat_cmp ps) (sym are) (all_ascend (length d.list));
    support = subst (HaveSupport task d.base d.list) (sym all) h.support;
    valid = subst (λ es. IsValid task (supposing task d.base d.list es) steps k.cost) (sym all)
        (subst (λ (known : Known). IsValid task known steps k.cost) h.known valid);
  }
    where
      all : entries_at d.list k.places.items ≡ d.list
      all = ap (entries_at d.list) are ∙ all_entries d.list

  -- what is kept in the end, as it is shown
  pub thin_shown : (k : Kept) (uses : List DreamUse) (shown : List Call) (entries : List dreams.SupposedEntry)
      → IsThinOf task d steps k → entries ≡ entries_at d.list k.places.items
      → map (λ (u : DreamUse). u.number) uses ≡ map (λ place. place + 1) k.places.items
      → map (λ (u : DreamUse). u.call) uses ≡ map (call_of_instance task d.known.names) (instances_of (entries_at d.list k.places.items))
      → shown ≡ map (call_of_step task d.known.names) steps → ShowsThin task d uses shown entries steps k.cost
  thin_shown k uses shown entries thin are numbers calls by_name =
      let below = thin.kept.below in
      record {
        places = k.places.items;
        ascend = thin.kept.ascend;
        chosen = chosen_at d.list k.places.items below ∙ ap (map Some) (sym are);
        support = subst (HaveSupport task d.base d.list) (sym are) thin.kept.support;
        valid = subst (λ es. IsValid task (supposing task d.base d.list es) steps k.cost) (sym are) thin.kept.valid;
        needed = λ place other lt v.
            thin.needed place (omega (arith, lt, ap length are, length-entries_at d.list k.places.items below)) other
            (subst (λ es. IsValid task (supposing task d.base d.list es) steps other)
            (sym (without_is task d.base d.list k.places.items place below))
            (subst (λ es. IsValid task (supposing task d.base d.list (without_entry task d.base d.list es place)) steps other) are v));
        numbers = numbers;
        calls = calls ∙ ap (λ es. map (call_of_instance task d.known.names) (instances_of es)) (sym are);
        shown = by_name;
      }

-- ---- names

-- an entry of the list has a stream of the task, and its inputs have names
pub named_entry : (task : Task) (d : Dreamable) (place : ℕ) (e : dreams.SupposedEntry) → IsListed task d → slice_get d.list place ≡ Some e
    → IsNamed task d.known.names e.instance
named_entry task d place e h at =
    let p = h.plain.each place e at in
    let names : d.known.names ≡ d.base.names ++ entry_names 1 d.list = ap (λ (k : Known). k.names) h.known in
    record {
      stream = slice_get_within task.streams e.instance.stream p.stream p.named;
      inputs = λ k o lt. below_names d.known.names _ (subst (λ ns. All (IsIn ns) e.instance.inputs) (sym names) p.given k o lt);
    }

-- one use more
module _ (task : Task) (d : Dreamable) (places : List ℕ) (i : ℕ) (old new : List DreamUse) (u : DreamUse) (e : dreams.SupposedEntry)
    (lt : i < length places) (at : slice_get d.list (get_or places i 0) ≡ Some e) (added : new ≡ old ++ u ∷ []) where
  pub numbers_grow : u.number ≡ get_or places i 0 + 1
      → map (λ (x : DreamUse). x.number) old ≡ map (λ place. place + 1) (take i places)
      → map (λ (x : DreamUse). x.number) new ≡ map (λ place. place + 1) (take (i + 1) places)
  numbers_grow is so_far =
      ap (map (λ (x : DreamUse). x.number)) added ∙ map-append (λ (x : DreamUse). x.number) old (u ∷ [])
      ∙ (λ k. so_far k ++ is k ∷ []) ∙ sym (map_more (λ place. place + 1) places i 0 lt)

  pub calls_grow : u.call ≡ call_of_instance task d.known.names e.instance
      → map (λ (x : DreamUse). x.call) old
      ≡ map (call_of_instance task d.known.names) (instances_of (entries_at d.list (take i places)))
      → map (λ (x : DreamUse). x.call) new
      ≡ map (call_of_instance task d.known.names) (instances_of (entries_at d.list (take (i + 1) places)))
  calls_grow is so_far =
      let more = entries_more d.list places i e lt at in
      ap (map (λ (x : DreamUse). x.call)) added ∙ map-append (λ (x : DreamUse). x.call) old (u ∷ [])
      ∙ (λ k. so_far k ++ is k ∷ [])
      ∙ sym (map-append (call_of_instance task d.known.names) (instances_of (entries_at d.list (take i places))) (e.instance ∷ []))
      ∙ ap (map (call_of_instance task d.known.names))
      (sym (map-append (λ (x : dreams.SupposedEntry). x.instance) (entries_at d.list (take i places)) (e ∷ [])))
      ∙ ap (λ es. map (call_of_instance task d.known.names) (instances_of es)) (sym more)

-- ---- after a transcript

module _ (limits : Limits) (task : Task) (before : List Entry) (tried : List Instance) (d : Dreamable)
    (h : IsListed task d) (base : d.base ≡ known_of task before) where
  abbrev known : Known
  known = known_of task before

  pub dream_after : (uses : List DreamUse) (shown : List Call) (entries : List dreams.SupposedEntry) (steps : List GroundAction) (cost : ℕ)
      → AreSupposed task known (notes_of task before) tried limits.depth d.list → ShowsThin task d uses shown entries steps cost
      → 0 < length uses → IsDreamAfter limits task before tried uses shown entries
  dream_after uses shown entries steps cost supposed s some = record {
    list = d.list;
    supposed = supposed;
    plan = steps;
    dream = record {
      few = h.plain.few;
      some = omega (arith, some, lengths);
      places = s.places;
      ascend = s.ascend;
      chosen = s.chosen;
      support = subst (λ k. HaveSupport task k d.list entries) base s.support;
      cost = cost;
      valid = subst (λ k. IsValid task (supposing task k d.list entries) steps cost) base s.valid;
      needed = λ place other lt.
          subst (λ k. ¬ (IsValid task (supposing task k d.list (without_entry task k d.list entries place)) steps other)) base
          (s.needed place other lt);
    };
    numbers = s.numbers;
    calls = s.calls ∙ ap (λ ns. map (call_of_instance task ns) (instances_of entries)) names;
    shown = s.shown ∙ ap (λ ns. map (call_of_step task ns) steps) names;
  }
    where
      names : d.known.names ≡ (supposing task known d.list d.list).names
      names = ap (λ (k : Known). k.names) (h.known ∙ ap (λ k. supposing task k d.list d.list) base)

      lengths : length uses ≡ length entries
      lengths =
          sym (length-map uses (λ (u : DreamUse). u.call)) ∙ ap length s.calls
          ∙ length-map (instances_of entries) (call_of_instance task d.known.names)
          ∙ length-map entries (λ (e : dreams.SupposedEntry). e.instance)

  pub sure_none : AreSupposed task known (notes_of task before) tried limits.depth d.list
      → (¬ (IsSolvable task d.known)) ⊎ IsFar task d.known limits.states → HasSureNoDreamAfter limits task before tried
  sure_none supposed none =
      inr (
        d.list,
        supposed,
        subst (λ (k : Known). (¬ (IsSolvable task k)) ⊎ IsFar task k limits.states)
            (h.known ∙ ap (λ k. supposing task k d.list d.list) base) none,
      )

-- where nothing is used, the plan is valid by what is known
pub known_plan : (task : Task) (before : List Entry) (d : Dreamable) (h : IsListed task d) (base : d.base ≡ known_of task before)
    (uses : List DreamUse) (shown : List Call) (entries : List dreams.SupposedEntry) (steps : List GroundAction) (cost : ℕ)
    → ShowsThin task d uses shown entries steps cost → uses ≡ [] → (entries ≡ []) × IsValid task (known_of task before) steps cost
known_plan task before d h base uses shown entries steps cost s none =
    let no_entries = no_more entries (sym (s.calls) ∙ ap (map (λ (u : DreamUse). u.call)) none) in
    let valid = subst (λ es. IsValid task (supposing task d.base d.list es) steps cost) no_entries s.valid in (
      no_entries,
      subst (λ k. IsValid task k steps cost) base
          (valid_same (supposing task d.base d.list []) d.base.names task steps cost valid),
    )
  where
    no_more : (es : List dreams.SupposedEntry) → map (call_of_instance task d.known.names) (instances_of es) ≡ [] → es ≡ []
    no_more [] e = refl
    no_more (x ∷ xs) e = absurd (cc)
