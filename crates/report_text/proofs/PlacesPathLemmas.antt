-- The lines of reports are exactly the paths from the first place to the one behind the last line.
use Rattle.std.proofs.Common.{◌≡◌, ℕ, zero, suc, ◌<◌, ◌^◌, ◌⊎◌, inl, inr, arith, Bool, true, false, List, [], ◌∷◌, ◌++◌, map, length, refl, sym, subst, ap, ◌∙◌, All, append_assoc}
use Rattle.std.specs.List.{flat_map}
use Rattle.std.proofs.lemmas.List.Elements.{All-tail, All-nil, All-head, All-cons}
use Rattle.report_text.specs.Forms.{IsNumber, IsTerm, IsFormedCall, IsFormedUse, IsFormedEntry, IsFormedOrigin, IsFormedOutcome, IsFormedPool, IsFormed}
use Rattle.report_text.specs.Places.{Place, first, limits, pools, entries, dream, plan, cost, origins, last, behind, dreaming, planning, dream_line, plan_line, cost_line, first_line, is_dream, IsEntryLine, IsBodyStep, IsLineStep, IsPath}
use Rattle.report_text.specs.Texts.{Line, use_line, step_line, do_line, from_line, entry_lines, outcome_lines, pool_line, done_line}
use Rattle.transcript_model.specs.declared.entry.Call.{Call}
use Rattle.transcript_model.specs.declared.entry.DreamUse.{DreamUse}
use Rattle.transcript_model.specs.declared.entry.Entry.{Entry}
use Rattle.transcript_model.specs.declared.entry.Entry.TheVariants as entry
use Rattle.transcript_model.specs.declared.head.Mode.{Mode}
use Rattle.transcript_model.specs.declared.head.PoolLine.{PoolLine}
use Rattle.transcript_model.specs.declared.outcome.Origin.{Origin}
use Rattle.transcript_model.specs.declared.outcome.Outcome.{Outcome}
use Rattle.transcript_model.specs.declared.outcome.Outcome.TheVariants as outcome
use Rattle.transcript_model.specs.declared.report.Report.{Report}
use Rattle.report_text.proofs.FormsLemmas.{report_lines}

-- ---- paths in two parts

pub path_then : (from : Place) (xs ys : List Line) (middle to : Place) → IsPath from xs middle
    → IsPath middle ys to
    → IsPath from (xs ++ ys) to
path_then from [] ys middle to here later = subst (λ p. IsPath p ys to) (sym here) later
path_then from (l ∷ xs) ys middle to here later =
    (here.0, here.1, path_then here.0 xs ys middle to here.2 later)

-- ---- the lines of a report are a path

steps_path : (version : ℕ) (steps : List Call) → All (IsFormedCall IsTerm) steps
    → IsPath (dreaming version 0 (length steps)) (map step_line steps) (entries version)
steps_path version [] all = refl
steps_path version (c ∷ cs) all = (
  dreaming version 0 (length cs),
  (c, All-head (IsFormedCall IsTerm) c cs all, refl, refl),
  steps_path version cs (All-tail (IsFormedCall IsTerm) c cs all),
)

uses_path : (version : ℕ) (uses : List DreamUse) (steps : ℕ) → All IsFormedUse uses
    → IsPath (dreaming version (length uses) steps) (map use_line uses) (dreaming version 0 steps)
uses_path version [] steps all = refl
uses_path version (u ∷ us) steps all = (
  dreaming version (length us) steps,
  (u, All-head IsFormedUse u us all, refl, refl),
  uses_path version us steps (All-tail IsFormedUse u us all),
)

pub single_path : (version : ℕ) (e : Entry) (l : Line) → IsFormedEntry version e
    → is_dream e ≡ false → entry_lines e ≡ l ∷ []
    → IsPath (entries version) (entry_lines e) (entries version)
single_path version e l formed single is =
    subst (λ ls. IsPath (entries version) ls (entries version))
    (sym is) (entries version, inl (record { entry = e; formed = formed; single = single; is = is }, refl), refl)

pub entry_path : (version : ℕ) (e : Entry) → IsFormedEntry version e
    → IsPath (entries version) (entry_lines e) (entries version)
entry_path version (entry.Dream uses steps) formed = (
  dreaming version (length uses) (length steps),
  inr (inl (length uses, length steps, formed.0, formed.1, refl, refl)),
  path_then (dreaming version (length uses) (length steps)) (map use_line uses) (map step_line steps) (dreaming version 0 (length steps))
      (entries version) (uses_path version uses (length steps) formed.2) (steps_path version steps formed.3),
)
entry_path version entry.Level formed = single_path version entry.Level _ formed refl refl
entry_path version (entry.Ask n t c) formed =
    single_path version (entry.Ask n t c) _ formed refl refl
entry_path version (entry.Got n t v) formed =
    single_path version (entry.Got n t v) _ formed refl refl
entry_path version (entry.Value n v) formed =
    single_path version (entry.Value n v) _ formed refl refl
entry_path version (entry.End n) formed = single_path version (entry.End n) _ formed refl refl
entry_path version entry.Nothing formed = single_path version entry.Nothing _ formed refl refl
entry_path version entry.Reset formed = single_path version entry.Reset _ formed refl refl
entry_path version (entry.Pick n) formed = single_path version (entry.Pick n) _ formed refl refl
entry_path version (entry.Retire n) formed = single_path version (entry.Retire n) _ formed refl refl

pub entries_path : (version : ℕ) (es : List Entry) → All (IsFormedEntry version) es
    → IsPath (entries version) (flat_map entry_lines es) (entries version)
entries_path version [] all = refl
entries_path version (e ∷ es) all =
    path_then (entries version) (entry_lines e) (flat_map entry_lines es) (entries version) (entries version)
    (entry_path version e (All-head (IsFormedEntry version) e es all))
    (entries_path version es (All-tail (IsFormedEntry version) e es all))

dos_path : (version : ℕ) (steps : List Call) → All (IsFormedCall IsTerm) steps
    → IsPath (planning version (length steps)) (map do_line steps) (cost version)
dos_path version [] all = refl
dos_path version (c ∷ cs) all = (
  planning version (length cs),
  (c, All-head (IsFormedCall IsTerm) c cs all, refl, refl),
  dos_path version cs (All-tail (IsFormedCall IsTerm) c cs all),
)

origins_path : (version : ℕ) (from : List Origin) → All (IsFormedOrigin version) from
    → IsPath (origins version) (map (from_line version) from ++ done_line ∷ []) behind
origins_path version [] all = (behind, inr (refl, refl), refl)
origins_path version (o ∷ os) all = (
  origins version,
  inl (o, All-head (IsFormedOrigin version) o os all, refl, refl),
  origins_path version os (All-tail (IsFormedOrigin version) o os all),
)

outcome_path : (version : ℕ) (o : Outcome) → IsFormedOutcome version o
    → IsPath (entries version) (outcome_lines version o ++ done_line ∷ []) behind
outcome_path version (outcome.Plan steps c from) formed =
    let dos = map do_line steps in
    let later = cost_line c ∷ map (from_line version) from in
    let whole : (dos ++ later) ++ done_line ∷ [] ≡ dos ++ (later ++ done_line ∷ []) = append_assoc dos later (done_line ∷ []) in
    let behind_dos : IsPath (cost version) (later ++ done_line ∷ []) behind =
    (origins version, (c, formed.1, refl, refl), origins_path version from formed.3) in (
      planning version (length steps),
      inr (inr (inl (length steps, formed.0, refl, refl))),
      subst (λ ls. IsPath (planning version (length steps)) ls behind) (sym whole)
          (path_then (planning version (length steps)) dos (later ++ done_line ∷ []) (cost version) behind
          (dos_path version steps formed.2) behind_dos),
    )
outcome_path version outcome.NoPlan formed =
    (last, inr (inr (inr (inl refl, refl))), (behind, (refl, refl), refl))
outcome_path version (outcome.Limit kind) formed =
    (last, inr (inr (inr (inr (kind, refl), refl))), (behind, (refl, refl), refl))

-- a path that leaves the entries leaves the pools as well
body_from_pools : (version : ℕ) (ls : List Line) → IsPath (entries version) ls behind
    → IsPath (pools version) ls behind
body_from_pools version [] path = absurd (apart path)
  where
    is_entries : Place → Bool
    is_entries (entries v) = true
    is_entries p = false

    apart : entries version ≡ behind → ⊥
    apart e = let same : true ≡ false = ap is_entries e in absurd (cc)
body_from_pools version (l ∷ ls) path = (path.0, inr path.1, path.2)

pools_path : (version : ℕ) (ps : List PoolLine) (ls : List Line) → All IsFormedPool ps
    → IsPath (entries version) ls behind
    → IsPath (pools version) (map pool_line ps ++ ls) behind
pools_path version [] ls all path = body_from_pools version ls path
pools_path version (p ∷ ps) ls all path =
    (pools version, inl (p, All-head IsFormedPool p ps all, refl, refl), pools_path version ps ls (All-tail IsFormedPool p ps all) path)

pub report_path : (r : Report) → IsFormed r → IsPath first (report_lines r) behind
report_path r formed =
    let body = flat_map entry_lines r.entries ++ (outcome_lines r.version r.outcome ++ done_line ∷ []) in
    let body_path =
    path_then (entries r.version) (flat_map entry_lines r.entries) (outcome_lines r.version r.outcome ++ done_line ∷ [])
    (entries r.version) behind (entries_path r.version r.entries formed.entries) (outcome_path r.version r.outcome formed.outcome)
    in (
      limits r.version,
      (r.version, r.mode, formed.version, refl, refl),
      (
        pools r.version,
        (r.calls, r.states, r.depth, formed.calls, formed.states, formed.depth, refl, refl),
        pools_path r.version r.pools body formed.pools body_path,
      ),
    )

-- ---- a path is the lines of a report

-- what the lines from a place on are
abbrev Sound : Place → List Line → Type 0
Sound first ls = (r : Report) × IsFormed r × (report_lines r ≡ ls)
Sound (limits version) ls =
    (version ≡ 1) ⊎ (version ≡ 2) → (mode : Mode) → (r : Report) × IsFormed r × (report_lines r ≡ first_line version mode ∷ ls)
Sound (pools version) ls =
    (ps : List PoolLine) × (es : List Entry) × (o : Outcome) × All IsFormedPool ps × All (IsFormedEntry version) es
    × IsFormedOutcome version o × (map pool_line ps ++ (flat_map entry_lines es ++ (outcome_lines version o ++ done_line ∷ [])) ≡ ls)
Sound (entries version) ls =
    (es : List Entry) × (o : Outcome) × All (IsFormedEntry version) es × IsFormedOutcome version o
    × (flat_map entry_lines es ++ (outcome_lines version o ++ done_line ∷ []) ≡ ls)
Sound (dream version uses steps) ls =
    (us : List DreamUse) × (ss : List Call) × (es : List Entry) × (o : Outcome) × (length us ≡ uses) × (length ss ≡ steps)
    × All IsFormedUse us × All (IsFormedCall IsTerm) ss × All (IsFormedEntry version) es × IsFormedOutcome version o
    × ((map use_line us ++ map step_line ss) ++ (flat_map entry_lines es ++ (outcome_lines version o ++ done_line ∷ [])) ≡ ls)
Sound (plan version steps) ls =
    (ss : List Call) × (c : ℕ) × (from : List Origin) × (length ss ≡ steps) × All (IsFormedCall IsTerm) ss × (c < 2 ^ 64)
    × All (IsFormedOrigin version) from × ((map do_line ss ++ cost_line c ∷ map (from_line version) from) ++ done_line ∷ [] ≡ ls)
Sound (cost version) ls =
    (c : ℕ) × (from : List Origin) × (c < 2 ^ 64) × All (IsFormedOrigin version) from
    × (cost_line c ∷ (map (from_line version) from ++ done_line ∷ []) ≡ ls)
Sound (origins version) ls =
    (from : List Origin) × All (IsFormedOrigin version) from × (map (from_line version) from ++ done_line ∷ [] ≡ ls)
Sound last ls = done_line ∷ [] ≡ ls
Sound behind ls = [] ≡ ls

sound_dreaming : (version uses steps : ℕ) (ls : List Line) → Sound (dreaming version uses steps) ls
    → Sound (dream version uses steps) ls
sound_dreaming version zero zero ls s = ([], [], s.0, s.1, refl, refl, All-nil IsFormedUse, All-nil (IsFormedCall IsTerm), s.2, s.3, s.4)
sound_dreaming version zero (suc steps) ls s = s
sound_dreaming version (suc uses) steps ls s = s

sound_planning : (version steps : ℕ) (ls : List Line) → Sound (planning version steps) ls
    → Sound (plan version steps) ls
sound_planning version zero ls s =
    ([], s.0, s.1, refl, All-nil (IsFormedCall IsTerm), s.2, s.3, s.4)
sound_planning version (suc steps) ls s = s

sound_body : (version : ℕ) (l : Line) (ls : List Line) (next : Place) → IsBodyStep version l next
    → Sound next ls
    → Sound (entries version) (l ∷ ls)
sound_body version l ls next (inl single) s =
    let here : IsEntryLine version l = single.0 in
    let later : Sound (entries version) ls = subst (λ p. Sound p ls) single.1 s in (
      here.entry ∷ later.0,
      later.1,
      All-cons (IsFormedEntry version) here.entry later.0 here.formed later.2,
      later.3,
      append_assoc (entry_lines here.entry) (flat_map entry_lines later.0) (outcome_lines version later.1 ++ done_line ∷ [])
          ∙ (λ i. here.is i ++ later.4 i),
    )
sound_body version l ls next (inr (inl opens)) s =
    let d = sound_dreaming version opens.0 opens.1 ls (subst (λ p. Sound p ls) opens.5 s) in
    let e = entry.Dream d.0 d.1 in
    let formed : IsFormedEntry version e = (subst IsNumber (sym d.4) opens.2, subst IsNumber (sym d.5) opens.3, d.6, d.7) in
    let head : dream_line (length d.0) (length d.1) ≡ l = (λ i. dream_line (d.4 i) (d.5 i)) ∙ sym opens.4 in (
      e ∷ d.2,
      d.3,
      All-cons (IsFormedEntry version) e d.2 formed d.8,
      d.9,
      append_assoc (entry_lines e) (flat_map entry_lines d.2) (outcome_lines version d.3 ++ done_line ∷ []) ∙ (λ i. head i ∷ d.10 i),
    )
sound_body version l ls next (inr (inr (inl plans))) s =
    let p = sound_planning version plans.0 ls (subst (λ q. Sound q ls) plans.3 s) in
    let head : plan_line (length p.0) ≡ l = ap plan_line p.3 ∙ sym plans.2 in
    ([], outcome.Plan p.0 p.1 p.2, All-nil (IsFormedEntry version), (subst IsNumber (sym p.3) plans.1, p.5, p.4, p.6), λ i. head i ∷ p.7 i)
sound_body version l ls next (inr (inr (inr (inl none, is)))) s =
    let later : done_line ∷ [] ≡ ls = subst (λ q. Sound q ls) is s in
    ([], outcome.NoPlan, All-nil (IsFormedEntry version), tt, λ i. sym none i ∷ later i)
sound_body version l ls next (inr (inr (inr (inr (kind, at), is)))) s =
    let later : done_line ∷ [] ≡ ls = subst (λ q. Sound q ls) is s in
    ([], outcome.Limit kind, All-nil (IsFormedEntry version), tt, λ i. sym at i ∷ later i)

sound_step : (p : Place) (l : Line) (ls : List Line) (next : Place) → IsLineStep p l next
    → Sound next ls → Sound p (l ∷ ls)
sound_step first l ls next step s =
    let r = subst (λ q. Sound q ls) step.4 s step.2 step.1 in
    (r.0, r.1, r.2 ∙ ap (λ m. m ∷ ls) (sym step.3))
sound_step (limits version) l ls next step s = λ is mode.
    let rest : Sound (pools version) ls = subst (λ q. Sound q ls) step.7 s in
    let r : Report = record {
      version = version;
      mode = mode;
      calls = step.0;
      states = step.1;
      depth = step.2;
      pools = rest.0;
      entries = rest.1;
      outcome = rest.2;
    } in (
      r,
      record { version = is; calls = step.3; states = step.4; depth = step.5; pools = rest.3; entries = rest.4; outcome = rest.5 },
      λ i. first_line version mode ∷ sym step.6 i ∷ rest.6 i,
    )
sound_step (pools version) l ls next (inl pool) s =
    let rest : Sound (pools version) ls = subst (λ q. Sound q ls) pool.3 s in
    (pool.0 ∷ rest.0, rest.1, rest.2, All-cons IsFormedPool pool.0 rest.0 pool.1 rest.3, rest.4, rest.5, λ i. sym pool.2 i ∷ rest.6 i)
sound_step (pools version) l ls next (inr body) s =
    let rest = sound_body version l ls next body s in
    ([], rest.0, rest.1, All-nil IsFormedPool, rest.2, rest.3, rest.4)
sound_step (entries version) l ls next body s = sound_body version l ls next body s
sound_step (dream version zero zero) l ls next step s = absurd step
sound_step (dream version zero (suc steps)) l ls next step s =
    let d = sound_dreaming version 0 steps ls (subst (λ q. Sound q ls) step.3 s) in
    let none : d.0 ≡ [] = empty d.0 d.4 in (
      [],
      step.0 ∷ d.1,
      d.2,
      d.3,
      refl,
      ap suc d.5,
      All-nil IsFormedUse,
      All-cons (IsFormedCall IsTerm) step.0 d.1 step.1 d.7,
      d.8,
      d.9,
      λ i. sym step.2 i
          ∷ (ap (λ us. (map use_line us ++ map step_line d.1)
          ++ (flat_map entry_lines d.2 ++ (outcome_lines version d.3 ++ done_line ∷ [])))
          (sym none)
          ∙ d.10) i,
    )
  where
    empty : (us : List DreamUse) → length us ≡ 0 → us ≡ []
    empty [] e = refl
    empty (u ∷ us) e = absurd (omega (arith, e))
sound_step (dream version (suc uses) steps) l ls next step s =
    let d = sound_dreaming version uses steps ls (subst (λ q. Sound q ls) step.3 s) in
    (step.0 ∷ d.0, d.1, d.2, d.3, ap suc d.4, d.5, All-cons IsFormedUse step.0 d.0 step.1 d.6, d.7, d.8, d.9, λ i. sym step.2 i ∷ d.10 i)
sound_step (plan version zero) l ls next step s = absurd step
sound_step (plan version (suc steps)) l ls next step s =
    let p = sound_planning version steps ls (subst (λ q. Sound q ls) step.3 s) in
    (step.0 ∷ p.0, p.1, p.2, ap suc p.3, All-cons (IsFormedCall IsTerm) step.0 p.0 step.1 p.4, p.5, p.6, λ i. sym step.2 i ∷ p.7 i)
sound_step (cost version) l ls next step s =
    let from : Sound (origins version) ls = subst (λ q. Sound q ls) step.3 s in
    (step.0, from.0, step.1, from.1, λ i. sym step.2 i ∷ from.2 i)
sound_step (origins version) l ls next (inl origin) s =
    let from : Sound (origins version) ls = subst (λ q. Sound q ls) origin.3 s in
    (origin.0 ∷ from.0, All-cons (IsFormedOrigin version) origin.0 from.0 origin.1 from.1, λ i. sym origin.2 i ∷ from.2 i)
sound_step (origins version) l ls next (inr done) s =
    let none : [] ≡ ls = subst (λ q. Sound q ls) done.1 s in
    ([], All-nil (IsFormedOrigin version), λ i. sym done.0 i ∷ none i)
sound_step last l ls next step s =
    let none : [] ≡ ls = subst (λ q. Sound q ls) step.1 s in
    λ i. sym step.0 i ∷ none i
sound_step behind l ls next step s = absurd step

sound : (p : Place) (ls : List Line) → IsPath p ls behind → Sound p ls
sound p [] path = subst (λ q. Sound q []) (sym path) refl
sound p (l ∷ ls) path = sound_step p l ls path.0 path.1 (sound path.0 ls path.2)

-- lines from the first place to the end are those of a report
pub path_report : (ls : List Line) → IsPath first ls behind
    → (r : Report) × IsFormed r × (report_lines r ≡ ls)
path_report ls path = sound first ls path
