-- Where each part of a report stops.
use Rattle.std.proofs.Common.{◌≡◌, ℕ, zero, suc, ◌+◌, ◌-◌, ◌<◌, ◌^◌, inl, inr, arith, List, [], ◌∷◌, ◌++◌, map, length, refl, sym, subst, ap, ◌∙◌, All, append_assoc, length-append, None, Some}
use Rattle.std.specs.List.{flat_map}
use Rattle.std.proofs.lemmas.Grind.{flat_map-append}
use Rattle.std.proofs.lemmas.List.{map-append, append-nil, length-map}
use Rattle.std.proofs.lemmas.List.Elements.{All-tail, All-head, All-push}
use Rattle.report_text.specs.Forms.{IsNumber, IsTerm, IsFormedCall, IsFormedUse, IsFormedEntry, IsFormedOrigin, IsFormedPool}
use Rattle.report_text.specs.Places.{Place, pools, entries, dream, plan, cost, origins, last, behind, dreaming, planning, dream_line, cost_line, IsBodyStep, IsLineStep, IsPath}
use Rattle.report_text.specs.Texts.{Line, use_line, step_line, do_line, from_line, entry_lines, pool_line}
use Rattle.transcript_model.specs.declared.entry.Call.{Call}
use Rattle.transcript_model.specs.declared.entry.DreamUse.{DreamUse}
use Rattle.transcript_model.specs.declared.entry.Entry.{Entry}
use Rattle.transcript_model.specs.declared.entry.Entry.TheVariants as entry
use Rattle.transcript_model.specs.declared.outcome.Origin.{Origin}
use Rattle.report_text.proofs.PlacesPathLemmas.{path_then, entries_path}
use Rattle.report_reader.specs.Body.{HasNoEnd, IsBodyLine, body_line, first_of_lines, IsDreamEntry, dream_lines, IsEnding, ending_line, IsReportFront}
use Rattle.report_reader.specs.Finding.{HasNo, TakesLine, TakesAll, TakesMany, TakesFewer, Stops}
use Rattle.report_reader.specs.Splits.{fields_of}
use Rattle.report_reader.specs.declared.body_line.BodyLine.{BodyLine}
use Rattle.report_reader.specs.declared.body_line.BodyLine.TheVariants.{Single, Dream, Ends}
use Rattle.report_reader.specs.declared.body_line.Ending.{Ending}
use Rattle.report_reader.specs.declared.body_line.Ending.TheVariants.{Plan, NoPlan, Limit}

-- ---- in general

abbrev Rows : Type 0
Rows = List (List (List ℕ))

pub shown_then : (xs ys : List Line) (new : Rows)
    → map fields_of (xs ++ ys) ++ new ≡ map fields_of xs ++ (map fields_of ys ++ new)
shown_then xs ys new =
    ap (λ l. l ++ new) (map-append fields_of xs ys)
    ∙ append_assoc (map fields_of xs) (map fields_of ys) new

pub stops_behind : (from middle : Place) (ls : List Line) (old mid new : Rows)
    → IsPath from ls middle → map fields_of ls ++ mid ≡ old
    → Stops middle mid new → Stops from old new
stops_behind from middle ls old mid new path is s = record {
  passed = ls ++ s.passed;
  at = s.at;
  path = path_then from ls s.passed middle s.at path s.path;
  lines = shown_then ls s.passed new ∙ ap (λ l. map fields_of ls ++ l) s.lines ∙ is;
  held = s.held;
}

-- no line may stand at the place, which isn't the last one
pub stops_at : (at : Place) (old new : Rows) → new ≡ old → ¬ (at ≡ behind)
    → ((l : Line) (rest : Rows) (to : Place) → fields_of l ∷ rest ≡ old → ¬ (IsLineStep at l to)) → Stops at old new
stops_at at old new same before none = record {
  passed = [];
  at = at;
  path = refl;
  lines = same;
  held = record { next = λ l rest to e step. none l rest to (e ∙ same) step; last = λ e here. before here };
}

-- that a line shows this item, where the fields are these
shown_so : {X : Type 0} (line_of : X → Line) (x : X) (l : Line) (rest old : Rows) → l ≡ line_of x
    → fields_of l ∷ rest ≡ old
    → fields_of (line_of x) ∷ rest ≡ old
shown_so line_of x l rest old is e = ap (λ (m : Line). fields_of m ∷ rest) (sym is) ∙ e

-- ---- dreams

uses_front : (v : ℕ) (us : List DreamUse) (steps m k : ℕ) → k ≡ length us + m → All IsFormedUse us
    → IsPath (dreaming v k steps) (map use_line us) (dreaming v m steps)
uses_front v [] steps m k e all =
    let same : k ≡ m = omega (arith, e) in ap (λ n. dreaming v n steps) same
uses_front v (u ∷ us) steps m zero e all = absurd (omega (arith, e))
uses_front v (u ∷ us) steps m (suc k) e all = (
  dreaming v k steps,
  (u, All-head IsFormedUse u us all, refl, refl),
  uses_front v us steps m k (omega (arith, e)) (All-tail IsFormedUse u us all),
)

steps_front : (v : ℕ) (cs : List Call) (m k : ℕ) → k ≡ length cs + m → All (IsFormedCall IsTerm) cs
    → IsPath (dreaming v 0 k) (map step_line cs) (dreaming v 0 m)
steps_front v [] m k e all = let same : k ≡ m = omega (arith, e) in ap (λ n. dreaming v 0 n) same
steps_front v (c ∷ cs) m zero e all = absurd (omega (arith, e))
steps_front v (c ∷ cs) m (suc k) e all = (
  dreaming v 0 k,
  (c, All-head (IsFormedCall IsTerm) c cs all, refl, refl),
  steps_front v cs m k (omega (arith, e)) (All-tail (IsFormedCall IsTerm) c cs all),
)

pub uses_stop : (v uses steps : ℕ) (old new : Rows) → TakesFewer IsFormedUse use_line uses old new → Stops (dreaming v uses steps) old new
uses_stop v uses steps old new t =
    stops_behind (dreaming v uses steps) (dreaming v (uses - length t.xs) steps) (map use_line t.xs) old new new
    (uses_front v t.xs steps (uses - length t.xs) uses (omega (arith, t.fewer)) t.formed) t.lines
    (held (uses - length t.xs) (omega (arith, t.fewer)))
  where
    held : (m : ℕ) → 0 < m → Stops (dreaming v m steps) new new
    held zero some = absurd (omega arith)
    held (suc m) some =
        stops_at (dream v (suc m) steps) new new refl
        (λ e. absurd (cc)) (λ l rest to e step. t.none step.0 rest step.1 (shown_so use_line step.0 l rest new step.2 e))

pub steps_stop : (v uses steps : ℕ) (us : List DreamUse) (old mid new : Rows)
    → TakesMany IsFormedUse use_line uses us old mid
    → TakesFewer (IsFormedCall IsTerm) step_line steps mid new → Stops (dreaming v uses steps) old new
steps_stop v uses steps us old mid new many t =
    stops_behind (dreaming v uses steps) (dreaming v 0 steps)
    (map use_line us) old mid new (uses_front v us steps 0 uses (omega (arith, many.many)) many.formed) many.lines
    (stops_behind (dreaming v 0 steps) (dreaming v 0 (steps - length t.xs)) (map step_line t.xs) mid new new
    (steps_front v t.xs (steps - length t.xs) steps (omega (arith, t.fewer)) t.formed) t.lines
    (held (steps - length t.xs) (omega (arith, t.fewer))))
  where
    held : (m : ℕ) → 0 < m → Stops (dreaming v 0 m) new new
    held zero some = absurd (omega arith)
    held (suc m) some =
        stops_at (dream v 0 (suc m)) new new refl
        (λ e. absurd (cc)) (λ l rest to e step. t.none step.0 rest step.1 (shown_so step_line step.0 l rest new step.2 e))

pub dream_whole : (v uses steps : ℕ) (e : Entry) (old mid new : Rows) → IsDreamEntry v uses steps e
    → map fields_of (dream_lines e) ++ new ≡ mid
    → fields_of (dream_line uses steps) ∷ mid ≡ old → IsFormedEntry v e × (map fields_of (entry_lines e) ++ new ≡ old)
dream_whole v uses steps (entry.Dream us ss) old mid new d is first_is =
    (d.0, (λ i. fields_of (dream_line (d.1 i) (d.2 i)) ∷ is i) ∙ first_is)
dream_whole v uses steps e old mid new d is first_is = absurd d

pub dream_stop : (v uses steps : ℕ) (old mid new : Rows) → IsNumber uses → IsNumber steps
    → fields_of (dream_line uses steps) ∷ mid ≡ old
    → Stops (dreaming v uses steps) mid new → Stops (entries v) old new
dream_stop v uses steps old mid new few short first_is s =
    stops_behind (entries v) (dreaming v uses steps)
    (dream_line uses steps ∷ []) old mid new (dreaming v uses steps, inr (inl (uses, steps, few, short, refl, refl)), refl) first_is s

-- ---- lines among the entries

shown_body : (v : ℕ) (l : Line) (to : Place) → IsBodyStep v l to
    → (b : BodyLine) × IsBodyLine v b × (l ≡ body_line b)
shown_body v l to (inl (s, next)) =
    (Single s.entry, (s.formed, s.single), sym (ap first_of_lines s.is))
shown_body v l to (inr (inl d)) = (Dream d.0 d.1, (d.2, d.3), d.4)
shown_body v l to (inr (inr (inl p))) = (Ends (Plan p.0), p.1, p.2)
shown_body v l to (inr (inr (inr (inl e, next)))) = (Ends NoPlan, tt, e)
shown_body v l to (inr (inr (inr (inr (kind, e), next)))) = (Ends (Limit kind), tt, e)

pub body_stop : (v : ℕ) (old new : Rows) → TakesLine (IsBodyLine v) body_line None old new
    → Stops (entries v) old new
body_stop v old new t =
    stops_at (entries v) old new t.0 (λ e. absurd (cc))
    (λ l rest to e step. let b = shown_body v l to step in t.1 b.0 rest b.1 (shown_so body_line b.0 l rest old b.2 e))

-- ---- entries

pub some_lines : (e : Entry) → 0 < length (entry_lines e)
some_lines (entry.Dream us ss) = omega arith
some_lines entry.Level = omega arith
some_lines (entry.Ask n t c) = omega arith
some_lines (entry.Got n t xs) = omega arith
some_lines (entry.Value n x) = omega arith
some_lines (entry.End n) = omega arith
some_lines entry.Nothing = omega arith
some_lines entry.Reset = omega arith
some_lines (entry.Pick n) = omega arith
some_lines (entry.Retire n) = omega arith

pub entry_smaller : (e : Entry) (old new : Rows) → map fields_of (entry_lines e) ++ new ≡ old
    → length new < length old
entry_smaller e old new is =
    omega (arith, some_lines e, ap length is, length-append (map fields_of (entry_lines e)) new, length-map (entry_lines e) fields_of)

pub front_next : (v : ℕ) (es : List Entry) (e : Entry) (old mid new : Rows)
    → IsReportFront v es old mid → IsFormedEntry v e
    → map fields_of (entry_lines e) ++ new ≡ mid → IsReportFront v (es ++ e ∷ []) old new
front_next v es e old mid new f formed is = record {
  formed = All-push (IsFormedEntry v) es e f.formed formed;
  lines =
      ap (λ ls. map fields_of ls ++ new)
      (flat_map-append entry_lines es (e ∷ []) ∙ ap (λ ls. flat_map entry_lines es ++ ls) (append-nil (entry_lines e)))
      ∙ shown_then (flat_map entry_lines es) (entry_lines e) new ∙ ap (λ l. map fields_of (flat_map entry_lines es) ++ l) is ∙ f.lines;
}

pub front_end : (v : ℕ) (es : List Entry) (ending : Ending) (old mid new : Rows)
    → IsReportFront v es old mid → IsEnding ending
    → fields_of (ending_line ending) ∷ new ≡ mid
    → (All (IsFormedEntry v) es × IsEnding ending) × (map fields_of (flat_map entry_lines es ++ ending_line ending ∷ []) ++ new ≡ old)
front_end v es ending old mid new f formed is = (
  (f.formed, formed),
  shown_then (flat_map entry_lines es) (ending_line ending ∷ []) new ∙ ap (λ l. map fields_of (flat_map entry_lines es) ++ l) is
      ∙ f.lines,
)

pub front_stop : (v : ℕ) (es : List Entry) (old mid new : Rows) → IsReportFront v es old mid
    → Stops (entries v) mid new
    → Stops (entries v) old new
front_stop v es old mid new f s =
    stops_behind (entries v) (entries v) (flat_map entry_lines es) old mid new (entries_path v es f.formed) f.lines s

-- ---- outcomes

dos_front : (v : ℕ) (cs : List Call) (m k : ℕ) → k ≡ length cs + m → All (IsFormedCall IsTerm) cs
    → IsPath (planning v k) (map do_line cs) (planning v m)
dos_front v [] m k e all = let same : k ≡ m = omega (arith, e) in ap (planning v) same
dos_front v (c ∷ cs) m zero e all = absurd (omega (arith, e))
dos_front v (c ∷ cs) m (suc k) e all = (
  planning v k,
  (c, All-head (IsFormedCall IsTerm) c cs all, refl, refl),
  dos_front v cs m k (omega (arith, e)) (All-tail (IsFormedCall IsTerm) c cs all),
)

origins_front : (v : ℕ) (os : List Origin) → All (IsFormedOrigin v) os
    → IsPath (origins v) (map (from_line v) os) (origins v)
origins_front v [] all = refl
origins_front v (o ∷ os) all =
    (origins v, inl (o, All-head (IsFormedOrigin v) o os all, refl, refl), origins_front v os (All-tail (IsFormedOrigin v) o os all))

pub plan_stop : (v steps : ℕ) (old new : Rows)
    → TakesFewer (IsFormedCall IsTerm) do_line steps old new → Stops (planning v steps) old new
plan_stop v steps old new t =
    stops_behind (planning v steps) (planning v (steps - length t.xs)) (map do_line t.xs) old new new
    (dos_front v t.xs (steps - length t.xs) steps (omega (arith, t.fewer)) t.formed) t.lines
    (held (steps - length t.xs) (omega (arith, t.fewer)))
  where
    held : (m : ℕ) → 0 < m → Stops (planning v m) new new
    held zero some = absurd (omega arith)
    held (suc m) some =
        stops_at (plan v (suc m)) new new refl
        (λ e. absurd (cc)) (λ l rest to e step. t.none step.0 rest step.1 (shown_so do_line step.0 l rest new step.2 e))

plan_then : (v steps : ℕ) (cs : List Call) (old mid new : Rows)
    → TakesMany (IsFormedCall IsTerm) do_line steps cs old mid
    → Stops (cost v) mid new → Stops (planning v steps) old new
plan_then v steps cs old mid new many s =
    stops_behind (planning v steps) (cost v) (map do_line cs) old mid new
    (dos_front v cs 0 steps (omega (arith, many.many)) many.formed) many.lines s

pub cost_stop : (v steps : ℕ) (cs : List Call) (old mid new : Rows)
    → TakesMany (IsFormedCall IsTerm) do_line steps cs old mid
    → TakesLine (λ c. c < 2 ^ 64) cost_line None mid new → Stops (planning v steps) old new
cost_stop v steps cs old mid new many t =
    plan_then v steps cs old mid new many (stops_at (cost v) mid new t.0
    (λ e. absurd (cc)) (λ l rest to e step. t.1 step.0 rest step.1 (shown_so cost_line step.0 l rest mid step.2 e)))

pub done_stop : (v steps c : ℕ) (cs : List Call) (os : List Origin) (old mid later final new : Rows)
    → TakesMany (IsFormedCall IsTerm) do_line steps cs old mid → TakesLine (λ c. c < 2 ^ 64) cost_line (Some c) mid later
    → TakesAll (IsFormedOrigin v) (from_line v) os later final → new ≡ final → HasNoEnd final → Stops (planning v steps) old new
done_stop v steps c cs os old mid later final new many t from same none =
    plan_then v steps cs old mid new many
    (stops_behind (cost v) (origins v) (cost_line c ∷ []) mid later new (origins v, (c, t.0, refl, refl), refl) t.1
    (stops_behind (origins v) (origins v) (map (from_line v) os) later final new
    (origins_front v os from.formed) from.lines (stops_at (origins v) final new same (λ e. absurd (cc)) held)))
  where
    held : (l : Line) (rest : Rows) (to : Place) → fields_of l ∷ rest ≡ final
        → IsLineStep (origins v) l to → ⊥
    held l rest to e (inl o) =
        from.none o.0 rest o.1 (shown_so (from_line v) o.0 l rest final o.2 e)
    held l rest to e (inr done) = none rest (ap (λ (m : Line). fields_of m ∷ rest) (sym done.0) ∙ e)

pub last_stop : (old new : Rows) → new ≡ old → HasNoEnd old → Stops last old new
last_stop old new same none =
    stops_at last old new same (λ e. absurd (cc)) (λ l rest to e step. none rest (ap (λ (m : Line). fields_of m ∷ rest) (sym step.0) ∙ e))

-- ---- pools

-- where no pool comes next, what stops among entries stops among pools
pub pools_stop : (v : ℕ) (old new : Rows) → HasNo IsFormedPool (λ p. fields_of (pool_line p)) old
    → Stops (entries v) old new
    → Stops (pools v) old new
pools_stop v old new none s = by_passed s.passed s.path s.lines
  where
    by_passed : (ls : List Line) → IsPath (entries v) ls s.at → map fields_of ls ++ new ≡ old
        → Stops (pools v) old new
    by_passed [] path is = stops_at (pools v) old new is (λ e. absurd (cc)) held
      where
        held : (l : Line) (rest : Rows) (to : Place) → fields_of l ∷ rest ≡ old
            → IsLineStep (pools v) l to → ⊥
        held l rest to e (inl p) = none p.0 rest p.1 (shown_so pool_line p.0 l rest old p.2 e)
        held l rest to e (inr body) =
            s.held.next l rest to (e ∙ sym is) (subst (λ p. IsLineStep p l to) path body)
    by_passed (l ∷ ls) path is = record { passed = l ∷ ls; at = s.at; path = (path.0, inr path.1, path.2); lines = is; held = s.held }
