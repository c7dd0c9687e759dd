-- Of a plan over what is known exactly one thing is said.
use Rattle.std.proofs.Common.{◌≡◌, ◌⊎◌, ℕ, zero, suc, ◌+◌, ◌<◌, ◌≤◌, ◌==◌, Bool, true, false, List, [], ◌∷◌, ◌++◌, take, length, refl, sym, ap, subst, ◌∙◌, arith, inl, inr, Option, None, Some, slice_get, take_all, eq-eqb, option_and_then}
use Rattle.std.proofs.lemmas.Bool.{cases_lt}
use Rattle.std.proofs.lemmas.List.{length-map}
use Rattle.std.proofs.lemmas.Option.{none-some, same_Some, slice_get_within}
use Rattle.formula_eval.proofs.ListTestLemmas.{have_types-unequal}
use Rattle.lemmas.proofs.Bools.{not_both}
use Rattle.lemmas.proofs.ListTests.{get_there}
use Rattle.lemmas.proofs.Members.{get_and_take, next_taken}
use Rattle.lemmas.proofs.Options.{and_then_some}
use Rattle.plan_check.specs.Faults.{StepFails}
use Rattle.plan_check.specs.declared.fault.StepFault.{StepFault}
use Rattle.plan_check.specs.declared.fault.StepFault.TheVariants as fault
use Rattle.shown_steps.proofs.PlansLemmas.{front_can}
use Rattle.shown_steps.proofs.RunsLemmas.{no_step, same_steps, step_stuck}
use Rattle.shown_steps.specs.Plans.{CanRun, IsPlan}
use Rattle.shown_steps.specs.Runs.{IsRunOf}
use Rattle.shown_steps.specs.Steps.{action_named, step_named}
use Rattle.task_model.proofs.StepsLemmas.{execution_determined}
use Rattle.task_model.specs.Fit.{IsFit}
use Rattle.task_model.specs.Initial.{initial_state}
use Rattle.task_model.specs.Known.{IsCoherent, Known, same_numbers}
use Rattle.task_model.specs.Plans.{Executes, IsGoal}
use Rattle.task_model.specs.State.{Atoms}
use Rattle.task_model.specs.Steps.{IsStep, cost_of, effect_of}
use Rattle.task_model.specs.Truth.{have_types, is_true, slots_of}
use Rattle.task_model.specs.declared.domain.Action.{Action}
use Rattle.task_model.specs.declared.task.GroundAction.{GroundAction}
use Rattle.task_model.specs.declared.task.Task.{Task}
use Rattle.transcript_model.proofs.CallNameLemmas.{places_exact}
use Rattle.transcript_model.proofs.NamesLemmas.{position_at}
use Rattle.transcript_model.specs.Names.{places_of}
use Rattle.transcript_model.specs.declared.entry.Call.{Call}
use Rattle.validate_app.proofs.VerdictsLemmas.{is_plan, none_lead, one_more}
use Rattle.validate_app.specs.Parts.{false_text}
use Rattle.validate_app.specs.Steps.{action_called, first_flaw}
use Rattle.validate_app.specs.Verdicts.{FailsAtCall, IsPlanVerdict, CallsLeadTo, MissesGoal}
use Rattle.validate_app.specs.declared.verdict.StepFlaw.{StepFlaw}
use Rattle.validate_app.specs.declared.verdict.StepFlaw.TheVariants as flaw
use Rattle.validate_app.specs.declared.verdict.Verdict.{Verdict}
use Rattle.validate_app.specs.declared.verdict.Verdict.TheVariants.{Valid, Step, Goal}

-- ---- a step

module _ (task : Task) (fit : IsFit task) (known : Known) (coherent : IsCoherent known) (state : Atoms)
    (call : Call) where
  -- the call shows no step, or one that isn't applicable
  pub record IsRefused (step : GroundAction) (why : StepFault) : Type 0 where
    pub named : step_named task known.names call ≡ Some step
    pub fails : StepFails task known state step why
    pub real : ¬ (why ≡ fault.Memory)

  abbrev pub IsStuck : Type 0
  IsStuck = (step_named task known.names call ≡ None) ⊎ ((step : GroundAction) × (why : StepFault) × IsRefused step why)

  -- the call shows a step that can be taken
  pub record CanTake : Type 0 where
    pub unflawed : first_flaw task known state call ≡ None
    pub step : GroundAction
    pub after : Atoms
    pub cost : ℕ
    pub named : step_named task known.names call ≡ Some step
    pub taken : IsStep task known state step after cost

  pub record CannotTake : Type 0 where
    pub why : StepFlaw
    pub flawed : first_flaw task known state call ≡ Some why
    pub stuck : IsStuck

  abbrev Judged : Type 0
  Judged = CanTake ⊎ CannotTake

  stopped : (why : StepFlaw) → first_flaw task known state call ≡ Some why → IsStuck → Judged
  stopped why flawed stuck = inr (record { why = why; flawed = flawed; stuck = stuck })

  refused : (step : GroundAction) (why : StepFault) → step_named task known.names call ≡ Some step
      → StepFails task known state step why → ¬ (why ≡ fault.Memory) → IsStuck
  refused step why named fails real = inr (step, why, record { named = named; fails = fails; real = real })

  -- the objects of a step of this action
  module _ (a : Action) (k : ℕ) (called : action_called task call.name ≡ Some a)
      (place : action_named task call.name ≡ Some k)
      (at : slice_get task.domain.actions k ≡ Some a) (objects : List ℕ)
      (found : places_of known.names call.args ≡ Some objects)
    where
      abbrev step : GroundAction
      step = record { action = k; args = objects }

      named : step_named task known.names call ≡ Some step
      named = rw (place, found) refl

      as_many : length objects ≡ length call.args
      as_many =
          let there = (places_exact known.names call.args objects coherent.names).0 found in
          let long = ap length there in
          let first = length-map objects (slice_get known.names) in
          let second = length-map call.args (λ (name : List ℕ). Some name) in
          omega (arith, long, first, second)

      -- too few or too many
      miscounted : ¬ (length call.args ≡ length a.params) → IsStuck
      miscounted other =
          let many = as_many in
          refused step fault.Args named
          (a, at, sym (have_types-unequal known objects a.params (λ e. other (omega (arith, e, many)))))
          (λ e. absurd (cc))

      -- as many as parameters
      counted : (length call.args == length a.params) ≡ true → Judged
      counted many = by_types (have_types known objects a.params) refl
        where
          by_cost : have_types known objects a.params ≡ true
              → is_true task.domain known state a.condition (slots_of objects) ≡ true
              → (o : Option ℕ) → cost_of task known a objects ≡ o → Judged
          by_cost typed holds None none =
              stopped flaw.Cost (rw (called, many, found, typed, holds, none) refl)
              (refused step fault.NoCost named (a, at, typed, holds, none) (λ e. absurd (cc)))
          by_cost typed holds (Some cost) costs = inl (record {
            unflawed = rw (called, many, found, typed, holds, costs) refl;
            step = step;
            after = effect_of a objects state;
            cost = cost;
            named = named;
            taken = record { action = a; named = at; typed = typed; condition = holds; costs = costs; leads = refl };
          })

          by_condition : have_types known objects a.params ≡ true
              → (b : Bool) → is_true task.domain known state a.condition (slots_of objects) ≡ b → Judged
          by_condition typed false wrong =
              stopped (flaw.Condition (false_text task known state a.condition objects))
              (rw (called, many, found, typed, wrong) refl)
              (refused step fault.Condition named (a, at, typed, wrong) (λ e. absurd (cc)))
          by_condition typed true holds = by_cost typed holds (cost_of task known a objects) refl

          by_types : (b : Bool) → have_types known objects a.params ≡ b → Judged
          by_types false wrong =
              stopped flaw.Sort (rw (called, many, found, wrong) refl)
              (refused step fault.Args named (a, at, wrong) (λ e. absurd (cc)))
          by_types true typed = by_condition typed (is_true task.domain known state a.condition (slots_of objects)) refl

  -- a step can be taken, or has a first flaw
  pub judged : Judged
  judged = by_action (action_called task call.name) refl
    where
      by_action : (o : Option Action) → action_called task call.name ≡ o → Judged
      by_action None none = stopped flaw.Action (rw none refl) (inl (unnamed (action_named task call.name) refl))
        where
          unnamed : (o : Option ℕ) → action_named task call.name ≡ o → step_named task known.names call ≡ None
          unnamed None absent = rw absent refl
          unnamed (Some k) place =
              let there = position_at (λ (a : Action). same_numbers call.name a.name) task.domain.actions k place in
              absurd (none-some there.0 (sym none ∙ ap (option_and_then (slice_get task.domain.actions)) place
              ∙ there.1))
      by_action (Some a) called =
          let found = and_then_some (slice_get task.domain.actions) (action_named task call.name) a called in
          by_objects found.0 found.1 found.2 (length call.args == length a.params) refl
          (places_of known.names call.args) refl
        where
          by_objects : (k : ℕ) → action_named task call.name ≡ Some k → slice_get task.domain.actions k ≡ Some a
              → (b : Bool) → (length call.args == length a.params) ≡ b
              → (o : Option (List ℕ)) → places_of known.names call.args ≡ o → Judged
          by_objects k place at false other None none =
              stopped flaw.Args (rw (called, other) refl) (inl (rw (place, none) refl))
          by_objects k place at false other (Some objects) found =
              stopped flaw.Args (rw (called, other) refl)
              (miscounted a k called place at objects found (λ e. absurd (not_both _ (eq-eqb _ _ e) other)))
          by_objects k place at true many None none =
              stopped flaw.Object (rw (called, many, none) refl) (inl (rw (place, none) refl))
          by_objects k place at true many (Some objects) found = counted a k called place at objects found many

-- ---- calls, one after another

module _ (task : Task) (fit : IsFit task) (known : Known) (coherent : IsCoherent known) where
  can_run : (calls : List Call) (state : Atoms) (cost : ℕ) → CallsLeadTo task known calls state cost
      → CanRun task known calls
  can_run calls state cost lead =
      record { steps = lead.steps; shown = lead.shown; state = state; cost = cost; runs = lead.runs }

  -- calls lead to one state, at one cost
  lead_once : (calls : List Call) (a b : Atoms) (m n : ℕ) → CallsLeadTo task known calls a m
      → CallsLeadTo task known calls b n
      → (a ≡ b) × (m ≡ n)
  lead_once calls a b m n x y =
      let same = same_steps task fit known coherent (initial_state task) a b x.steps y.steps m n x.runs y.runs
      (sym x.shown ∙ y.shown) in
      execution_determined task known (initial_state task) y.steps a b m n
      (subst (λ steps. Executes task known (initial_state task) steps a m) same x.runs) y.runs

  run_of : (calls : List Call) (state : Atoms) (cost : ℕ) → CallsLeadTo task known calls state cost
      → IsRunOf task known calls (record { state = state; cost = Some cost })
  run_of calls state cost lead =
      record { steps = lead.steps; shown = lead.shown; total = cost; runs = lead.runs; sum = refl }

  -- a call that is stuck can't be taken behind those before it
  not_behind : (calls : List Call) (call : Call) (state : Atoms) (cost : ℕ) → CallsLeadTo task known calls state cost
      → IsStuck task fit known coherent state call → ¬ (CanRun task known (calls ++ call ∷ []))
  not_behind calls call state cost lead (inl none) can = no_step task fit known coherent calls call none can
  not_behind calls call state cost lead (inr (step, why, is)) can =
      step_stuck task fit known coherent calls call (record { state = state; cost = Some cost }) step why is.real
      (run_of calls state cost lead) is.named is.fails can

  -- a call that has a flaw is stuck
  flawed_stuck : (state : Atoms) (call : Call) (why : StepFlaw) → first_flaw task known state call ≡ Some why
      → IsStuck task fit known coherent state call
  flawed_stuck state call why flawed = by (judged task fit known coherent state call)
    where
      by : CanTake task fit known coherent state call ⊎ CannotTake task fit known coherent state call
          → IsStuck task fit known coherent state call
      by (inl can) = absurd (none-some why (sym can.unflawed ∙ flawed))
      by (inr cannot) = cannot.stuck

  -- where a step fails, no more calls can be taken
  fails_end : (calls : List Call) (number : ℕ) (why : StepFlaw) (f : FailsAtCall task known calls number why) (k : ℕ)
      → f.place < k → ¬ (CanRun task known (take k calls))
  fails_end calls number why f k lt can =
      let front : CanRun task known (take (f.place + 1) (take k calls)) =
      front_can task known (take k calls) (f.place + 1) can in
      let within = get_and_take calls f.place k f.call lt f.there in
      let cut : take (f.place + 1) (take k calls) ≡ take f.place calls ++ f.call ∷ [] =
      next_taken (take k calls) f.place f.call within.0 ∙ ap (λ cs. cs ++ f.call ∷ []) within.1 in
      not_behind (take f.place calls) f.call f.state f.cost f.before (flawed_stuck f.state f.call why f.fails)
      (subst (CanRun task known) cut front)

  all_taken : (calls : List Call) → take (length calls) calls ≡ calls
  all_taken calls = take_all (length calls) calls (omega arith)

  -- a step that fails stands among the calls, which aren't all taken then
  fails_all : (calls : List Call) (number : ℕ) (why : StepFlaw) → FailsAtCall task known calls number why
      → ¬ (CanRun task known calls)
  fails_all calls number why f can =
      fails_end calls number why f (length calls) (slice_get_within calls f.place f.call f.there)
      (subst (CanRun task known) (sym (all_taken calls)) can)

  -- ---- one verdict at most

  fails_once : (calls : List Call) (number other : ℕ) (why than : StepFlaw) → FailsAtCall task known calls number why
      → FailsAtCall task known calls other than → (number ≡ other) × (why ≡ than)
  fails_once calls number other why than f g = by (cases_lt f.place g.place) (cases_lt g.place f.place)
    where
      here : f.place ≡ g.place → (number ≡ other) × (why ≡ than)
      here same =
          let before = subst (λ k. CallsLeadTo task known (take k calls) f.state f.cost) same f.before in
          let states = (lead_once (take g.place calls) f.state g.state f.cost g.cost before g.before).0 in
          let calls_same : f.call ≡ g.call =
          same_Some f.call g.call (sym f.there ∙ ap (slice_get calls) same ∙ g.there) in (
            f.numbered ∙ ap (λ k. k + 1) same ∙ sym g.numbered,
            same_Some why than (sym f.fails ∙ (λ i. first_flaw task known (states i) (calls_same i)) ∙ g.fails),
          )

      by : (f.place < g.place) ⊎ (g.place ≤ f.place) → (g.place < f.place) ⊎ (f.place ≤ g.place)
          → (number ≡ other) × (why ≡ than)
      by (inl lt) q = absurd (fails_end calls number why f g.place lt
          (can_run (take g.place calls) g.state g.cost g.before))
      by (inr ge) (inl lt) = absurd (fails_end calls other than g f.place lt
          (can_run (take f.place calls) f.state f.cost f.before))
      by (inr ge) (inr le) = here (omega (arith, ge, le))

  plan_leads : (calls : List Call) (cost : ℕ) (p : IsPlan task known calls cost)
      → CallsLeadTo task known calls p.valid.0 cost
  plan_leads calls cost p = record { steps = p.steps; shown = p.shown; runs = p.valid.1 }

  plan_once : (calls : List Call) (m n : ℕ) → IsPlan task known calls m → IsPlan task known calls n → m ≡ n
  plan_once calls m n p q =
      (lead_once calls p.valid.0 q.valid.0 m n (plan_leads calls m p) (plan_leads calls n q)).1

  plan_misses : (calls : List Call) (cost : ℕ) (part : List ℕ) → IsPlan task known calls cost
      → MissesGoal task known calls part → ⊥
  plan_misses calls cost part p g =
      g.missed (subst (IsGoal task known)
      (lead_once calls p.valid.0 g.state cost g.cost (plan_leads calls cost p) g.runs).0 p.valid.2)

  missed_once : (calls : List Call) (part other : List ℕ) → MissesGoal task known calls part
      → MissesGoal task known calls other → part ≡ other
  missed_once calls part other f g =
      f.told
      ∙ ap (λ state. false_text task known state task.problem.goal [])
      (lead_once calls f.state g.state f.cost g.cost f.runs g.runs).0
      ∙ sym g.told

  plan_runs : (calls : List Call) (cost : ℕ) → IsPlan task known calls cost → CanRun task known calls
  plan_runs calls cost p = can_run calls p.valid.0 cost (plan_leads calls cost p)

  pub verdict_once : (calls : List Call) (v w : Verdict) → IsPlanVerdict task known calls v
      → IsPlanVerdict task known calls w → v ≡ w
  verdict_once calls (Valid m) (Valid n) p q = ap Valid (plan_once calls m n p q)
  verdict_once calls (Valid m) (Step number why) p f = absurd (fails_all calls number why f (plan_runs calls m p))
  verdict_once calls (Valid m) (Goal part) p g = absurd (plan_misses calls m part p g)
  verdict_once calls (Step number why) (Valid n) f q = absurd (fails_all calls number why f (plan_runs calls n q))
  verdict_once calls (Step number why) (Step other than) f g =
      let same = fails_once calls number other why than f g in λ i. Step (same.0 i) (same.1 i)
  verdict_once calls (Step number why) (Goal part) f g =
      absurd (fails_all calls number why f (can_run calls g.state g.cost g.runs))
  verdict_once calls (Goal part) (Valid n) g q = absurd (plan_misses calls n part q g)
  verdict_once calls (Goal part) (Step number why) g f =
      absurd (fails_all calls number why f (can_run calls g.state g.cost g.runs))
  verdict_once calls (Goal part) (Goal other) f g = ap Goal (missed_once calls part other f g)

  -- ---- one verdict at least

  -- the calls before a place lead somewhere, or one of them can't be taken
  record Led (calls : List Call) (place : ℕ) : Type 0 where
    state : Atoms
    cost : ℕ
    leads : CallsLeadTo task known (take place calls) state cost

  record Failed (calls : List Call) : Type 0 where
    number : ℕ
    why : StepFlaw
    fails : FailsAtCall task known calls number why

  led_more : (calls : List Call) (place : ℕ) → place < length calls → Led calls place → Led calls (suc place)
      ⊎ Failed calls
  led_more calls place lt led = by (judged task fit known coherent led.state (get_there calls place lt).0)
    where
      by : CanTake task fit known coherent led.state (get_there calls place lt).0
          ⊎ CannotTake task fit known coherent led.state (get_there calls place lt).0
          → Led calls (suc place) ⊎ Failed calls
      by (inl can) = inl (record {
        state = can.after;
        cost = led.cost + can.cost;
        leads = one_more task fit known coherent calls place
            (get_there calls place lt).0 led.state can.after led.cost can.cost
            (get_there calls place lt).1 led.leads (can.step, can.named, can.taken);
      })
      by (inr cannot) = inr (record {
        number = place + 1;
        why = cannot.why;
        fails = record {
          place = place;
          numbered = refl;
          state = led.state;
          cost = led.cost;
          before = led.leads;
          call = (get_there calls place lt).0;
          there = (get_there calls place lt).1;
          fails = cannot.flawed;
        };
      })

  led_upto : (calls : List Call) (place : ℕ) → place ≤ length calls → Led calls place ⊎ Failed calls
  led_upto calls zero le =
      inl (record {
        state = initial_state task;
        cost = 0;
        leads =
            none_lead task fit known coherent (initial_state task) refl;
      })
  led_upto calls (suc place) le = by (led_upto calls place (omega (arith, le)))
    where
      by : Led calls place ⊎ Failed calls → Led calls (suc place) ⊎ Failed calls
      by (inl led) = led_more calls place (omega (arith, le)) led
      by (inr failed) = inr failed

  pub some_verdict : (calls : List Call) → (v : Verdict) × IsPlanVerdict task known calls v
  some_verdict calls = by (led_upto calls (length calls) (omega arith))
    where
      by_goal : (led : Led calls (length calls)) → CallsLeadTo task known calls led.state led.cost → (b : Bool)
          → is_true task.domain known led.state task.problem.goal (slots_of []) ≡ b → (v : Verdict)
          × IsPlanVerdict task known calls v
      by_goal led leads true reached =
          (Valid led.cost, is_plan task fit known coherent calls led.state led.cost leads reached)
      by_goal led leads false missed = (
        Goal (false_text task known led.state task.problem.goal []),
        record {
          state = led.state;
          cost = led.cost;
          runs = leads;
          missed = λ reached. not_both _ reached missed;
          told = refl;
        },
      )

      by : Led calls (length calls) ⊎ Failed calls → (v : Verdict) × IsPlanVerdict task known calls v
      by (inl led) =
          by_goal led (subst (λ cs. CallsLeadTo task known cs led.state led.cost) (all_taken calls) led.leads)
          (is_true task.domain known led.state task.problem.goal (slots_of [])) refl
      by (inr failed) = (Step failed.number failed.why, failed.fails)
