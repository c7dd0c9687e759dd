-- A report is its parts, one after another.
use Rattle.std.proofs.Common.{◌≡◌, ℕ, inl, inr, arith, List, [], ◌∷◌, ◌++◌, map, refl, sym, subst, ap, ◌∙◌, All, append_assoc, suc, None, Some}
use Rattle.std.specs.List.{flat_map}
use Rattle.report_text.specs.Forms.{IsFormedPool, IsFormed}
use Rattle.report_text.specs.Places.{first, limits, pools, entries, last, planning, cost_line, IsPath}
use Rattle.report_text.specs.Texts.{Line, do_line, from_line, entry_lines, outcome_lines, pool_line, done_line, lines_of_report}
use Rattle.transcript_model.specs.declared.head.PoolLine.{PoolLine}
use Rattle.transcript_model.specs.declared.outcome.Outcome.{Outcome}
use Rattle.transcript_model.specs.declared.outcome.Outcome.TheVariants as outcome
use Rattle.transcript_model.specs.declared.report.Report.{Report}
use Rattle.report_text.proofs.PlacesPathLemmas.{path_then, entries_path}
use Rattle.report_reader.specs.Body.{IsEnding, ending_line, ending_place, ending_of, IsBody, body_lines, outcome_rest, IsOutcomeOf, IsFirstLine, first_of, IsLimits, limits_line_of}
use Rattle.report_reader.specs.Finding.{TakesLine, TakesAll, shown_lines, Stops}
use Rattle.report_reader.specs.Splits.{fields_of}
use Rattle.report_reader.specs.declared.body_line.Ending.{Ending}
use Rattle.report_reader.specs.declared.body_line.Ending.TheVariants.{Plan, NoPlan, Limit}
use Rattle.report_reader.specs.declared.body_reader.Body.{Body}
use Rattle.report_reader.specs.declared.head_reader.First.{First}
use Rattle.report_reader.specs.declared.head_reader.Limits.{Limits}
use Rattle.report_reader.proofs.BodyStopLemmas.{pools_stop, shown_then, stops_at, stops_behind}

abbrev Rows : Type 0
Rows = List (List (List ℕ))

-- ---- where the head stops

pub first_stop : (old new : Rows) → TakesLine IsFirstLine first_of None old new → Stops first old new
first_stop old new t =
    stops_at first old new t.0 (λ e. absurd (cc))
    (λ l rest to e step. t.1 (record { version = step.0; mode = step.1 }) rest step.2
    (ap (λ (m : Line). fields_of m ∷ rest) (sym step.3) ∙ e))

pub limits_stop : (f : First) (old mid new : Rows) → TakesLine IsFirstLine first_of (Some f) old mid
    → TakesLine IsLimits limits_line_of None mid new → Stops first old new
limits_stop f old mid new t none =
    stops_behind first (limits f.version) (first_of f ∷ []) old mid new (limits f.version, (f.version, f.mode, t.0, refl, refl), refl) t.1
    (stops_at (limits f.version) mid new none.0 (λ e. absurd (cc))
    (λ l rest to e step. none.1 (record { calls = step.0; states = step.1; depth = step.2 }) rest
    (record { calls = step.3; states = step.4; depth = step.5 }) (ap (λ (m : Line). fields_of m ∷ rest) (sym step.6) ∙ e)))

pools_front : (v : ℕ) (ps : List PoolLine) → All IsFormedPool ps
    → IsPath (pools v) (map pool_line ps) (pools v)
pools_front v [] all = refl
pools_front v (p ∷ ps) all = (pools v, inl (p, all 0 p (omega arith), refl, refl), pools_front v ps (λ k d lt. all (suc k) d (omega arith)))

-- what the head has taken
pub record HasHead (f : First) (l : Limits) (ps : List PoolLine) (old new : Rows) : Type 0 where
  pub second : Rows
  pub third : Rows
  pub first_line : TakesLine IsFirstLine first_of (Some f) old second
  pub limits_line : TakesLine IsLimits limits_line_of (Some l) second third
  pub pool_lines : TakesAll IsFormedPool pool_line ps third new

pub head_then : (f : First) (l : Limits) (ps : List PoolLine) (old mid new : Rows)
    → HasHead f l ps old mid
    → Stops (entries f.version) mid new → Stops first old new
head_then f l ps old mid new h s =
    stops_behind first (limits f.version) (first_of f ∷ []) old h.second new
    (limits f.version, (f.version, f.mode, h.first_line.0, refl, refl), refl) h.first_line.1
    (stops_behind (limits f.version) (pools f.version) (limits_line_of l ∷ []) h.second h.third new (
      pools f.version,
      (l.calls, l.states, l.depth, h.limits_line.0.calls, h.limits_line.0.states, h.limits_line.0.depth, refl, refl),
      refl,
    ) h.limits_line.1
    (stops_behind (pools f.version) (pools f.version) (map pool_line ps) h.third mid new
    (pools_front f.version ps h.pool_lines.formed) h.pool_lines.lines (pools_stop f.version mid new h.pool_lines.none s)))

-- ---- entries with the line that ends them

ending_path : (v : ℕ) (ending : Ending) → IsEnding ending
    → IsPath (entries v) (ending_line ending ∷ []) (ending_place v ending)
ending_path v (Plan steps) formed =
    (planning v steps, inr (inr (inl (steps, formed, refl, refl))), refl)
ending_path v NoPlan formed = (last, inr (inr (inr (inl refl, refl))), refl)
ending_path v (Limit kind) formed = (last, inr (inr (inr (inr (kind, refl), refl))), refl)

pub body_then : (v : ℕ) (b : Body) (old mid new : Rows) → IsBody v b
    → map fields_of (body_lines b) ++ mid ≡ old
    → Stops (ending_place v b.ending) mid new → Stops (entries v) old new
body_then v b old mid new formed is s =
    stops_behind (entries v) (ending_place v b.ending) (body_lines b) old mid new
    (path_then (entries v) (flat_map entry_lines b.entries) (ending_line b.ending ∷ []) (entries v)
    (ending_place v b.ending) (entries_path v b.entries formed.0) (ending_path v b.ending formed.1)) is s

-- ---- the whole

outcome_whole : (v : ℕ) (o : Outcome)
    → outcome_lines v o ++ done_line ∷ [] ≡ ending_line (ending_of o) ∷ outcome_rest v o
outcome_whole v (outcome.Plan steps cost from) =
    ap (λ ls. ending_line (ending_of (outcome.Plan steps cost from)) ∷ ls)
    (append_assoc (map do_line steps) (cost_line cost ∷ map (from_line v) from) (done_line ∷ []))
outcome_whole v outcome.NoPlan = refl
outcome_whole v (outcome.Limit kind) = refl

pub report_whole : (f : First) (l : Limits) (ps : List PoolLine) (b : Body) (o : Outcome) (r : Report) (old mid later new : Rows)
    → HasHead f l ps old mid → IsBody f.version b × (map fields_of (body_lines b) ++ later ≡ mid)
    → IsOutcomeOf f.version b.ending o × (map fields_of (outcome_rest f.version o) ++ new ≡ later)
    → r
    ≡ record {
      version = f.version;
      mode = f.mode;
      calls = l.calls;
      states = l.states;
      depth = l.depth;
      pools = ps;
      entries = b.entries;
      outcome = o;
    }
    → IsFormed r × (map fields_of (lines_of_report r) ++ new ≡ old)
report_whole f l ps b o r old mid later new h body out is =
    subst (λ x. IsFormed x × (map fields_of (lines_of_report x) ++ new ≡ old)) (sym is) (
      record {
        version = h.first_line.0;
        calls = h.limits_line.0.calls;
        states = h.limits_line.0.states;
        depth = h.limits_line.0.depth;
        pools = h.pool_lines.formed;
        entries = body.0.0;
        outcome = out.0.0;
      },
      whole,
    )
  where
    rest : flat_map entry_lines b.entries ++ (outcome_lines f.version o ++ done_line ∷ []) ≡ body_lines b ++ outcome_rest f.version o
    rest =
        ap (λ ls. flat_map entry_lines b.entries ++ ls)
        (outcome_whole f.version o ∙ ap (λ e. ending_line e ∷ outcome_rest f.version o) out.0.1)
        ∙ sym (append_assoc (flat_map entry_lines b.entries) (ending_line b.ending ∷ []) (outcome_rest f.version o))

    behind_head : map fields_of (flat_map entry_lines b.entries ++ (outcome_lines f.version o ++ done_line ∷ [])) ++ new ≡ mid
    behind_head =
        ap (λ ls. map fields_of ls ++ new) rest ∙ shown_then (body_lines b) (outcome_rest f.version o) new
        ∙ ap (λ ls. map fields_of (body_lines b) ++ ls) out.1 ∙ body.1

    whole : fields_of (first_of f) ∷ fields_of (limits_line_of l)
        ∷ (map fields_of (map pool_line ps ++ (flat_map entry_lines b.entries ++ (outcome_lines f.version o ++ done_line ∷ []))) ++ new)
        ≡ old
    whole =
        ap (λ ls. fields_of (first_of f) ∷ fields_of (limits_line_of l) ∷ ls)
        (shown_then (map pool_line ps) (flat_map entry_lines b.entries ++ (outcome_lines f.version o ++ done_line ∷ [])) new
        ∙ ap (λ ls. shown_lines pool_line ps ++ ls) behind_head ∙ h.pool_lines.lines)
        ∙ ap (λ ls. fields_of (first_of f) ∷ ls) h.limits_line.1 ∙ h.first_line.1
