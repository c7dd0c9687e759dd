-- From a dream over a list to the lines that a report shows after a transcript.
use Rattle.std.proofs.Common.{◌≡◌, ℕ, ◌+◌, ◌<◌, ◌≤◌, ◌⊎◌, arith, inl, inr, List, [], ◌∷◌, ◌++◌, length, map, take, refl, sym, ap, subst, ◌∙◌, Some, slice_get}
use Rattle.std.proofs.lemmas.Bool.{cases_lt}
use Rattle.std.proofs.lemmas.List.{take-take}
use Rattle.std.proofs.lemmas.List.Elements.{All-cons, All-nil}
use Rattle.std.proofs.lemmas.Option.{slice_get_within}
use Rattle.turn_laws.proofs.DreamLemmas.{places_same, somes_same}
use Rattle.turn_laws.proofs.DreamListLemmas.{more_come, supposed_once}
use Rattle.dreaming.proofs.KeptLemmas.{without_is}
use Rattle.dreaming.proofs.PartLemmas.{plain_few}
use Rattle.dreaming.proofs.PlacesLemmas.{AreBelow, chosen_at, entry_of_list, length-entries_at}
use Rattle.dreaming.proofs.ThinLemmas.{dream_after}
use Rattle.dreaming.specs.Answers.{ShowsThin}
use Rattle.dreaming.specs.Parts.{IsListed, entries_at}
use Rattle.dreaming.specs.Thinning.{places_without}
use Rattle.optimistic_set.proofs.SupposingLemmas.{supposing_coherent}
use Rattle.optimistic_set.specs.Dreamable.{Dreamable}
use Rattle.shown_plan.proofs.ShownLemmas.{valid_named}
use Rattle.shown_steps.proofs.PlansLemmas.{front_can}
use Rattle.shown_steps.proofs.RunsLemmas.{shown_once}
use Rattle.shown_steps.specs.Plans.{CanRun, IsPlan}
use Rattle.task_model.specs.Dreams as dreams
use Rattle.task_model.specs.Dreams.{HaveSupport, entry_names, instances_of, supposing, without_entry}
use Rattle.task_model.specs.Known.{Known, IsCoherent}
use Rattle.task_model.specs.Plans.{IsValid}
use Rattle.task_model.specs.declared.stream.Instance.{Instance}
use Rattle.task_model.specs.declared.task.Task.{Task}
use Rattle.transcript_model.specs.Calls.{call_of_step}
use Rattle.transcript_model.specs.Dreaming.{AreSupposedAfter, IsDreamAfter, MoreAreSupposed}
use Rattle.transcript_model.specs.Names.{call_of_instance}
use Rattle.transcript_model.specs.Rounds.{Limits}
use Rattle.transcript_model.specs.Transcript.{known_of, notes_of}
use Rattle.transcript_model.specs.declared.entry.Call.{Call}
use Rattle.transcript_model.specs.declared.entry.DreamUse.{DreamUse}
use Rattle.transcript_model.specs.declared.entry.Entry.{Entry}
use Rattle.dream_check.proofs.DreamLinesLemmas.{choice, dream_lines}
use Rattle.dream_check.proofs.UsesLemmas.{used_front}
use Rattle.dream_check.specs.Judged.{IsDreamJudged}
use Rattle.dream_check.specs.Lines.{AreUsable, BreaksDreamStep, BreaksUse, CanDream, IsChosen, IsFirstWrongLine, IsWrongLine}
use Rattle.dream_check.specs.Listed.{AreUsed, IsJudgedOver, IsPartJudged, IsThinPlan, StopsAtUse, known_at}
use Rattle.dream_check.specs.declared.dream.Dreamed.{Dreamed}
use Rattle.dream_check.specs.declared.dream.Dreamed.TheVariants.{Right, Use, Step, Last}

-- where entries are chosen, the places are places of the list
chosen_below : (list : List dreams.SupposedEntry) (places : List ℕ) (entries : List dreams.SupposedEntry)
    → map (slice_get list) places ≡ map Some entries → AreBelow list places
chosen_below list [] entries e = All-nil (λ place. place < length list)
chosen_below list (p ∷ ps) [] e = absurd (cc)
chosen_below list (p ∷ ps) (x ∷ xs) e =
    let first : slice_get list p ≡ Some x = cc in
    let rest : map (slice_get list) ps ≡ map Some xs = cc in
    All-cons (λ place. place < length list) p ps (slice_get_within list p x first) (chosen_below list ps xs rest)

module _ (limits : Limits) (task : Task) (before : List Entry) (tried : List Instance) (d : Dreamable) (h : IsListed task d)
    (base : d.base ≡ known_of task before) (so : AreSupposedAfter limits task before tried d.list) where
  abbrev known : Known
  known = known_of task before

  -- ---- names

  names_are : d.known.names ≡ d.base.names ++ entry_names 1 d.list
  names_are = ap (λ (k : Known). k.names) h.known

  names_after : d.known.names ≡ (supposing task known d.list d.list).names
  names_after = names_are ∙ ap (λ (k : Known). k.names ++ entry_names 1 d.list) base

  -- ---- uses

  -- what is used over the list is chosen after the transcript
  chosen_so : (uses : List DreamUse) (places : List ℕ) → AreUsed task d uses places
      → IsChosen limits task before tried uses d.list (entries_at d.list places)
  chosen_so uses places u = record {
    supposed = so;
    few = h.plain.few;
    places = places;
    ascend = u.ascend;
    chosen = chosen_at d.list places u.below;
    support = subst (λ k. HaveSupport task k d.list (entries_at d.list places)) base u.support;
    numbers = u.numbers;
    calls = u.calls ∙ ap (λ ns. map (call_of_instance task ns) (instances_of (entries_at d.list places))) names_after;
  }

  pub usable : (uses : List DreamUse) (places : List ℕ) → AreUsed task d uses places
      → AreUsable limits task before tried uses
  usable uses places u = (d.list, entries_at d.list places, chosen_so uses places u)

  -- what is chosen after the transcript is used over the list
  module _ (uses : List DreamUse) (list entries : List dreams.SupposedEntry) (c : IsChosen limits task before tried uses list entries) where
    one_list : list ≡ d.list
    one_list = supposed_once task known (notes_of task before) tried limits.depth list d.list c.supposed so

    chosen : map (slice_get d.list) c.places ≡ map Some entries
    chosen = subst (λ l. map (slice_get l) c.places ≡ map Some entries) one_list c.chosen

    below : AreBelow d.list c.places
    below = chosen_below d.list c.places entries chosen

    entries_are : entries ≡ entries_at d.list c.places
    entries_are = somes_same entries (entries_at d.list c.places) (sym chosen ∙ chosen_at d.list c.places below)

    used_so : AreUsed task d uses c.places
    used_so = record {
      below = below;
      ascend = c.ascend;
      support = subst (HaveSupport task d.base d.list) entries_are
          (subst (λ l. HaveSupport task d.base l entries) one_list
          (subst (λ k. HaveSupport task k list entries) (sym base) c.support));
      numbers = c.numbers;
      calls = c.calls ∙ ap (λ l. map (call_of_instance task (supposing task known l l).names) (instances_of entries)) one_list
          ∙ ap (λ ns. map (call_of_instance task ns) (instances_of entries)) (sym names_after)
          ∙ ap (λ es. map (call_of_instance task d.known.names) (instances_of es)) entries_are;
    }

    -- what is known with them
    known_so : (places : List ℕ) → AreUsed task d uses places → supposing task known list entries ≡ known_at task d places
    known_so places u =
        (λ i. supposing task (sym base i) (one_list i) (entries_are i))
        ∙ ap (known_at task d) (places_same c.places places (sym c.numbers ∙ u.numbers))

  -- ---- steps

  can_dream : (uses : List DreamUse) (places : List ℕ) (calls : List Call) → AreUsed task d uses places
      → CanRun task (known_at task d places) calls → CanDream limits task before tried uses calls
  can_dream uses places calls u can = (
    d.list,
    entries_at d.list places,
    chosen_so uses places u,
    subst (λ k. CanRun task (supposing task k d.list (entries_at d.list places)) calls) base can,
  )

  dream_can : (uses : List DreamUse) (places : List ℕ) (calls : List Call) → AreUsed task d uses places
      → CanDream limits task before tried uses calls → CanRun task (known_at task d places) calls
  dream_can uses places calls u (list, entries, c, can) =
      subst (λ k. CanRun task k calls) (known_so uses list entries c places u) can

  -- ---- dreams

  dream_of : (uses : List DreamUse) (steps : List Call) (places : List ℕ) (entries : List dreams.SupposedEntry) → AreUsed task d uses places
      → entries ≡ entries_at d.list places → IsThinPlan task d places steps → 0 < length uses
      → IsDreamAfter limits task before tried uses steps entries
  dream_of uses steps places entries u are thin some =
      dream_after limits task before tried d h base uses steps entries plan.steps thin.0.0 so shows some
    where
      plan : IsPlan task (known_at task d places) steps thin.0.0
      plan = thin.0.1

      needed : (place other : ℕ) → place < length entries
          → ¬ (IsValid task (supposing task d.base d.list (without_entry task d.base d.list entries place)) plan.steps other)
      needed place other lt v =
          thin.1 place (omega (arith, lt, ap length are, length-entries_at d.list places u.below)) other (record {
            steps = plan.steps;
            shown = plan.shown;
            valid = subst
                (λ es. IsValid task (supposing task d.base d.list (without_entry task d.base d.list es place)) plan.steps other) are v;
          })

      shows : ShowsThin task d uses steps entries plan.steps thin.0.0
      shows = record {
        places = places;
        ascend = u.ascend;
        chosen = chosen_at d.list places u.below ∙ ap (map Some) (sym are);
        support = subst (HaveSupport task d.base d.list) (sym are) u.support;
        valid = subst (λ es. IsValid task (supposing task d.base d.list es) plan.steps thin.0.0) (sym are) plan.valid;
        needed = needed;
        numbers = u.numbers;
        calls = u.calls ∙ ap (λ es. map (call_of_instance task d.known.names) (instances_of es)) (sym are);
        shown = plan.shown ∙ ap (λ ns. map (call_of_step task ns) plan.steps) (sym names_are);
      }

  module _ (coherent : IsCoherent known) where
    -- what is known with some of the entries is coherent
    coherent_with : (places : List ℕ) → IsCoherent (known_at task d places)
    coherent_with places =
        supposing_coherent task d.base d.list (entries_at d.list places) h.plain.base.fit h.plain.base.declared
        (subst IsCoherent (sym base) coherent) h.plain.base.real (plain_few task d.base d.list h.plain) h.plain.few
        (λ k e at. let there = entry_of_list d.list places k e at in h.plain.each there.0 e there.1)

    coherent_without : (places : List ℕ) (place : ℕ) → AreBelow d.list places
        → IsCoherent (supposing task d.base d.list (without_entry task d.base d.list (entries_at d.list places) place))
    coherent_without places place all =
        subst (λ es. IsCoherent (supposing task d.base d.list es)) (without_is task d.base d.list places place all)
        (coherent_with (places_without task d.base d.list places place (place + 1)))

    module _ (uses : List DreamUse) (steps : List Call) (places : List ℕ) (u : AreUsed task d uses places)
        (entries : List dreams.SupposedEntry)
        (x : IsDreamAfter limits task before tried uses steps entries) where
      is_list : x.list ≡ d.list
      is_list = one_list uses x.list entries (choice limits task before tried uses steps entries x)

      are_entries : entries ≡ entries_at d.list places
      are_entries =
          entries_are uses x.list entries (choice limits task before tried uses steps entries x)
          ∙ ap (entries_at d.list) (places_same x.dream.places places (sym x.numbers ∙ u.numbers))

      is_known : supposing task known x.list entries ≡ known_at task d places
      is_known = λ i. supposing task (sym base i) (is_list i) (are_entries i)

      its_plan : IsPlan task (known_at task d places) steps x.dream.cost
      its_plan = record {
        steps = x.plan;
        shown = x.shown ∙ ap (λ (k : Known). map (call_of_step task k.names) x.plan) is_known;
        valid = subst (λ k. IsValid task k x.plan x.dream.cost) is_known x.dream.valid;
      }

      -- the steps that are shown are the dream's
      one_plan : (place other : ℕ)
          → (q : IsPlan task
          (supposing task d.base d.list (without_entry task d.base d.list (entries_at d.list places) place)) steps other)
          → q.steps ≡ x.plan
      one_plan place other q =
          shown_once task h.plain.base.fit (known_at task d places).names (coherent_with places).names q.steps x.plan
          (valid_named task (supposing task d.base d.list (without_entry task d.base d.list (entries_at d.list places) place))
          (coherent_without places place u.below) q.steps other q.valid)
          (valid_named task (known_at task d places) (coherent_with places) x.plan x.dream.cost
          (subst (λ k. IsValid task k x.plan x.dream.cost) is_known x.dream.valid))
          (sym q.shown ∙ x.shown ∙ ap (λ (k : Known). map (call_of_step task k.names) x.plan) is_known)

      thin_of : IsThinPlan task d places steps
      thin_of = (
        (x.dream.cost, its_plan),
        λ place lt other q.
            x.dream.needed place other (omega (arith, lt, ap length are_entries, length-entries_at d.list places u.below))
            (subst (λ k. IsValid task k x.plan other)
            (λ i. supposing task (base i) (sym is_list i) (without_entry task (base i) (sym is_list i) (sym are_entries i) place))
            (subst (λ ss. IsValid task
            (supposing task d.base d.list (without_entry task d.base d.list (entries_at d.list places) place)) ss other)
            (one_plan place other q) q.valid)),
      )

    -- ---- lines

    -- a front of what is used is used
    front_usable : (uses : List DreamUse) (places : List ℕ) (m n : ℕ) → m ≤ n → AreUsed task d (take n uses) places
        → AreUsable limits task before tried (take m uses)
    front_usable uses places m n le u =
        subst (AreUsable limits task before tried) (take-take m n uses le)
        (usable (take m (take n uses)) (take m places) (used_front task d (take n uses) places m u))

    -- no use is wrong where all are used
    uses_right : (uses : List DreamUse) (places : List ℕ) (offset : ℕ) → AreUsed task d uses places
        → ¬ (BreaksUse limits task before tried uses offset)
    uses_right uses places offset u b =
        b.wrong (usable (take (b.place + 1) uses) (take (b.place + 1) places) (used_front task d uses places (b.place + 1) u))

    -- no step of these is wrong
    steps_right : (uses : List DreamUse) (steps : List Call) (places : List ℕ) (n : ℕ) → AreUsed task d uses places
        → CanRun task (known_at task d places) (take n steps) → (place : ℕ) → place < n
        → CanDream limits task before tried uses (take (place + 1) steps)
    steps_right uses steps places n u can place lt =
        can_dream uses places (take (place + 1) steps) u
        (subst (CanRun task (known_at task d places)) (take-take (place + 1) n steps (omega (arith, lt)))
        (front_can task (known_at task d places) (take n steps) (place + 1) can))

    all_steps_right : (uses : List DreamUse) (steps : List Call) (places : List ℕ) (offset : ℕ) → AreUsed task d uses places
        → CanRun task (known_at task d places) steps → ¬ (BreaksDreamStep limits task before tried uses steps offset)
    all_steps_right uses steps places offset u can b =
        b.stuck (can_dream uses places (take (b.place + 1) steps) u
        (front_can task (known_at task d places) steps (b.place + 1) can))

    -- a use is the first wrong line
    use_wrong : (uses : List DreamUse) (steps : List Call) (place : ℕ) → StopsAtUse task d uses place
        → IsFirstWrongLine limits task before tried uses steps (place + 1)
    use_wrong uses steps place stops = (
      inl (record {
        place = place;
        within = stops.within;
        wrong = λ usable. stops.stuck (usable.2.places, used_so (take (place + 1) uses) usable.0 usable.1 usable.2);
        is = refl;
      }),
      first,
    )
      where
        first : (other : ℕ) → IsWrongLine limits task before tried uses steps other → place + 1 ≤ other
        first other (inl b) = by (cases_lt b.place place)
          where
            by : (b.place < place) ⊎ (place ≤ b.place) → place + 1 ≤ other
            by (inl lt) =
                absurd (b.wrong (front_usable uses stops.front.0 (b.place + 1) place (omega (arith, lt)) stops.front.1))
            by (inr le) = let is = b.is in omega (arith, le, is)
        first other (inr (inl s)) =
            let within = stops.within in
            let is = s.is in omega (arith, within, is)
        first other (inr (inr (is, none))) = let within = stops.within in omega (arith, within, is)

    -- what is said of the steps is said of the lines
    part_lines : (uses : List DreamUse) (steps : List Call) (places : List ℕ) (x : Dreamed) → 0 < length uses
        → AreUsed task d uses places → IsPartJudged task d places steps x
        → IsDreamJudged limits task before tried uses steps x
    part_lines uses steps places (Right entries) some u (are, thin) =
        let dream = dream_of uses steps places entries.items u are thin some in
        (dream, λ offset. dream_lines limits task before tried uses steps entries.items dream offset)
    part_lines uses steps places (Use place) some u said = absurd said
    part_lines uses steps places (Step place) some u stops = (
      inr (inl (record {
        place = place;
        within = stops.within;
        stuck = λ can. stops.stuck (dream_can uses places (take (place + 1) steps) u can);
        is = refl;
      })),
      first,
    )
      where
        first : (other : ℕ) → IsWrongLine limits task before tried uses steps other → length uses + place + 1 ≤ other
        first other (inl b) = absurd (uses_right uses places other u b)
        first other (inr (inl s)) = by (cases_lt s.place place)
          where
            by : (s.place < place) ⊎ (place ≤ s.place) → length uses + place + 1 ≤ other
            by (inl lt) = absurd (s.stuck (steps_right uses steps places place u stops.runs s.place lt))
            by (inr le) = let is = s.is in omega (arith, le, is)
        first other (inr (inr (is, none))) = let within = stops.within in omega (arith, within, is)
    part_lines uses steps places Last some u (can, not_thin) = (
      inr (inr (refl, λ entries dream. not_thin (thin_of uses steps places u entries dream))),
      first,
    )
      where
        first : (other : ℕ) → IsWrongLine limits task before tried uses steps other → length uses + length steps ≤ other
        first other (inl b) = absurd (uses_right uses places other u b)
        first other (inr (inl s)) = absurd (all_steps_right uses steps places other u can s)
        first other (inr (inr (is, none))) = omega (arith, is)

    pub dream_judged : (uses : List DreamUse) (steps : List Call) (x : Dreamed) → 0 < length uses
        → IsJudgedOver task d uses steps x → IsDreamJudged limits task before tried uses steps x
    dream_judged uses steps x some (inl (place, is, stops)) =
        subst (IsDreamJudged limits task before tried uses steps) (sym is) (use_wrong uses steps place stops)
    dream_judged uses steps x some (inr (places, u, said)) = part_lines uses steps places x some u said

-- where too many entries are supposed, the first use is wrong
pub too_many_used : (limits : Limits) (task : Task) (before : List Entry) (tried : List Instance) (uses : List DreamUse)
    (steps : List Call)
    → MoreAreSupposed 20000 task (known_of task before) (notes_of task before) tried limits.depth → 0 < length uses
    → IsDreamJudged limits task before tried uses steps (Use 0)
too_many_used limits task before tried uses steps more some = (
  inl (record { place = 0; within = some; wrong = none; is = refl }),
  first,
)
  where
    none : ¬ (AreUsable limits task before tried (take 1 uses))
    none (list, entries, c) =
        let many = more_come task (known_of task before) (notes_of task before) tried 20000 limits.depth list more c.supposed in
        let few = c.few in omega (arith, many, few)

    first : (other : ℕ) → IsWrongLine limits task before tried uses steps other → 0 + 1 ≤ other
    first other (inl b) = let is = b.is in omega (arith, is)
    first other (inr (inl s)) = let is = s.is in omega (arith, is)
    first other (inr (inr (is, none))) = omega (arith, is, some)
