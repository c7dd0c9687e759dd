-- The steps that calls stand for, taken one after another.
use Rattle.std.proofs.Common.{◌≡◌, ℕ, ◌+◌, ◌<◌, List, [], ◌∷◌, ◌++◌, map, length, take, refl, sym, ap, subst, ◌∙◌, Option, Some, None, slice_get, arith, get_or, All, option_map}
use Rattle.std.proofs.lemmas.List.{map-append, take_more}
use Rattle.std.proofs.lemmas.List.Elements.{All-head, All-tail}
use Rattle.std.proofs.lemmas.Option.{slice_get-map, same_Some, none-some}
use Rattle.task_model.proofs.StepsLemmas.{execution_determined, parts_of_whole, step_determined, whole_of_parts}
use Rattle.task_model.proofs.KnownLemmas.{numbers_decided}
use Rattle.task_model.proofs.StreamsLemmas.{named_at, names_there}
use Rattle.task_model.specs.Fit.{IsFit}
use Rattle.task_model.specs.Initial.{initial_state}
use Rattle.task_model.specs.Known.{IsCoherent, IsIn, Known, same_numbers}
use Rattle.lemmas.specs.Lists.{AreDistinct}
use Rattle.task_model.specs.Plans.{Executes}
use Rattle.task_model.specs.State.{Atoms}
use Rattle.task_model.specs.Steps.{IsStep, cost_of}
use Rattle.task_model.specs.Streams.{name_at}
use Rattle.task_model.specs.Truth.{have_types, is_true, slots_of}
use Rattle.task_model.specs.declared.domain.Action.{Action}
use Rattle.task_model.specs.declared.task.GroundAction.{GroundAction}
use Rattle.task_model.specs.declared.task.Task.{Task}
use Rattle.transcript_model.proofs.CallNameLemmas.{places_exact}
use Rattle.transcript_model.proofs.NamesLemmas.{map_some, position_at, position_only}
use Rattle.transcript_model.specs.Calls.{action_name, call_of_step}
use Rattle.transcript_model.specs.Names.{places_of}
use Rattle.transcript_model.specs.declared.entry.Call.{Call}
use Rattle.shown_plan.proofs.ShownLemmas.{named_steps}
use Rattle.plan_check.specs.Faults.{StepFails}
use Rattle.plan_check.specs.declared.fault.StepFault.{StepFault}
use Rattle.plan_check.specs.declared.fault.StepFault.TheVariants.{NoAction, Args, Condition, NoCost, Memory}
use Rattle.shown_steps.specs.Plans.{CanRun}
use Rattle.shown_steps.specs.Runs.{IsRunOf, IsSum, StopsAtStep}
use Rattle.shown_steps.specs.declared.steps.Run.{Run}
use Rattle.shown_steps.specs.Steps.{action_named, step_named}
use Rattle.shown_plan.specs.Shown.{AreNamedSteps}
use Rattle.lemmas.proofs.Bools.{not_both}
use Rattle.lemmas.proofs.Members.{some_within}
use Rattle.lemmas.proofs.Options.{and_then_some}

-- ---- names of objects

there_named : (names : List (List ℕ)) (objects : List ℕ) → All (IsIn names) objects
    → map (slice_get names) objects ≡ map Some (map (name_at names) objects)
there_named names [] all = refl
there_named names (o ∷ os) all =
    let first = named_at names o (All-head (IsIn names) o os all) in
    let rest = there_named names os (All-tail (IsIn names) o os all) in
    λ i. first i ∷ rest i

-- ---- calls and steps

module _ (task : Task) (fit : IsFit task) (names : List (List ℕ)) (distinct : AreDistinct names) where
  named_action : (name : List ℕ) (k : ℕ) → action_named task name ≡ Some k
      → action_name task k ≡ name
  named_action name k is =
      let at = position_at (λ (a : Action). same_numbers name a.name) task.domain.actions k is in
      rw at.1 (sym ((numbers_decided name at.0.name).0 at.2))

  -- a call stands for the step that shows it
  pub step_shown : (call : Call) (step : GroundAction) → step_named task names call ≡ Some step
      → call ≡ call_of_step task names step
  step_shown call step is =
      let action =
      and_then_some (λ a. option_map (λ (args : List ℕ). record { action = a; args = args }) (places_of names call.args))
      (action_named task call.name) step is in
      let args = map_some (λ (args : List ℕ). record { action = action.0; args = args }) (places_of names call.args) step action.2 in
      let objects = names_there names call.args args.0 ((places_exact names call.args args.0 distinct).0 args.1) in
      (λ i. record { name = sym (named_action call.name action.0 action.1) i; args = sym objects i }) ∙ ap (call_of_step task names) args.2

  action_found : (k : ℕ) (a : Action) → slice_get task.domain.actions k ≡ Some a
      → action_named task (action_name task k) ≡ Some k
  action_found k a at =
      let named : action_name task k ≡ a.name = rw at refl in
      position_only (λ (b : Action). same_numbers (action_name task k) b.name) task.domain.actions k a at
      ((numbers_decided (action_name task k) a.name).1 named)
      (λ m b there same. fit.domain.action_names.distinct m k a.name
      (name_there m b there ∙ ap Some (sym ((numbers_decided (action_name task k) b.name).0 same) ∙ named)) (name_there k a at))
    where
      name_there : (m : ℕ) (b : Action) → slice_get task.domain.actions m ≡ Some b
          → slice_get (map (λ (c : Action). c.name) task.domain.actions) m ≡ Some b.name
      name_there m b there =
          slice_get-map (λ (c : Action). c.name) task.domain.actions m
          ∙ ap (option_map (λ (c : Action). c.name)) there

  -- the call that shows a step stands for it
  pub step_found : (step : GroundAction) (a : Action)
      → slice_get task.domain.actions step.action ≡ Some a → All (IsIn names) step.args
      → step_named task names (call_of_step task names step) ≡ Some step
  step_found step a at all =
      rw (
        action_found step.action a at,
        (places_exact names (map (name_at names) step.args) step.args distinct).1 (there_named names step.args all),
      ) refl

  found_named : (step : GroundAction) → step.action < length task.domain.actions → All (IsIn names) step.args
      → step_named task names (call_of_step task names step) ≡ Some step
  found_named step lt all = by (slice_get task.domain.actions step.action) refl
    where
      by : (o : Option Action) → slice_get task.domain.actions step.action ≡ o
          → step_named task names (call_of_step task names step) ≡ Some step
      by (Some a) at = step_found step a at all
      by None none = absurd (some_within task.domain.actions step.action lt none)

  -- calls show one list of steps whose actions and objects have names
  pub shown_once : (xs ys : List GroundAction) → AreNamedSteps task names xs → AreNamedSteps task names ys
      → map (call_of_step task names) xs ≡ map (call_of_step task names) ys → xs ≡ ys
  shown_once [] [] p q e = refl
  shown_once [] (y ∷ ys) p q e = absurd (cc)
  shown_once (x ∷ xs) [] p q e = absurd (cc)
  shown_once (x ∷ xs) (y ∷ ys) p q e =
      let heads : call_of_step task names x ≡ call_of_step task names y = cc in
      let tails : map (call_of_step task names) xs ≡ map (call_of_step task names) ys = cc in
      let same : x ≡ y = same_Some x y (sym (first x xs p) ∙ ap (step_named task names) heads ∙ first y ys q) in
      let rest = shown_once xs ys (behind x xs p) (behind y ys q) tails in
      λ i. same i ∷ rest i
    where
      first : (s : GroundAction) (steps : List GroundAction) → AreNamedSteps task names (s ∷ steps)
          → step_named task names (call_of_step task names s) ≡ Some s
      first s steps named =
          found_named s (All-head (λ (x : GroundAction). x.action < length task.domain.actions) s steps named.actions)
          (All-head (λ (x : GroundAction). All (IsIn names) x.args) s steps named.objects)

      behind : (s : GroundAction) (steps : List GroundAction) → AreNamedSteps task names (s ∷ steps) → AreNamedSteps task names steps
      behind s steps named = record {
        actions = All-tail (λ (x : GroundAction). x.action < length task.domain.actions) s steps named.actions;
        objects = All-tail (λ (x : GroundAction). All (IsIn names) x.args) s steps named.objects;
      }

-- ---- lists of calls

-- what is shown last, and what before
pub ends : {A B : Type 0} (f : A → B) (cs : List B) (c : B) (steps : List A)
    → cs ++ c ∷ [] ≡ map f steps
    → (front : List A) × (last : A) × (steps ≡ front ++ last ∷ []) × (cs ≡ map f front) × (c ≡ f last)
ends f [] c [] e = absurd (cc)
ends f [] c (s ∷ []) e = ([], s, refl, refl, cc)
ends f [] c (s ∷ t ∷ more) e = absurd (cc)
ends f (x ∷ xs) c [] e = absurd (cc)
ends f (x ∷ xs) c (s ∷ steps) e =
    let first : x ≡ f s = cc in
    let rest : xs ++ c ∷ [] ≡ map f steps = cc in
    let r = ends f xs c steps rest in
    (s ∷ r.0, r.1, ap (λ z. s ∷ z) r.2, (λ i. first i ∷ r.3 i), r.4)

-- ---- steps that fail

-- a step isn't both taken and refused
pub step_fails_not : (task : Task) (known : Known) (state after : Atoms) (step : GroundAction) (cost : ℕ) (fault : StepFault)
    → ¬ (fault ≡ Memory) → IsStep task known state step after cost → StepFails task known state step fault → ⊥
step_fails_not task known state after step cost NoAction other s fails = none-some s.action (sym fails ∙ s.named)
step_fails_not task known state after step cost Args other s (a, named, wrong) =
    let same = same_Some s.action a (sym s.named ∙ named) in
    not_both _ (sym (ap (λ (b : Action). have_types known step.args b.params) same) ∙ s.typed) wrong
step_fails_not task known state after step cost Condition other s (a, named, typed, wrong) =
    let same = same_Some s.action a (sym s.named ∙ named) in
    not_both _ (sym (ap (λ (b : Action). is_true task.domain known state b.condition (slots_of step.args)) same) ∙ s.condition) wrong
step_fails_not task known state after step cost NoCost other s (a, named, typed, holds, wrong) =
    let same = same_Some s.action a (sym s.named ∙ named) in
    none-some cost (sym wrong ∙ ap (λ (b : Action). cost_of task known b step.args) (sym same) ∙ s.costs)
step_fails_not task known state after step cost Memory other s fails = other refl

module _ (task : Task) (fit : IsFit task) (known : Known) (coherent : IsCoherent known) where
  abbrev cs : GroundAction → Call
  cs = call_of_step task known.names

  abbrev found_in : Call → Option GroundAction
  found_in = step_named task known.names

  -- a step that can be taken is found by its call
  found : (before after : Atoms) (step : GroundAction) (cost : ℕ)
      → IsStep task known before step after cost
      → found_in (cs step) ≡ Some step
  found before after step cost s =
      step_found task fit known.names coherent.names step s.action s.named
      (All-head (λ (x : GroundAction). All (IsIn known.names) x.args) step []
      (named_steps task known coherent before after
      (step ∷ []) cost (after, cost, 0, s, (refl, refl), omega arith)).objects)

  -- calls show one list of steps that can be taken
  pub same_steps : (before a b : Atoms) (xs ys : List GroundAction) (m n : ℕ)
      → Executes task known before xs a m
      → Executes task known before ys b n → map cs xs ≡ map cs ys → xs ≡ ys
  same_steps before a b [] [] m n first second e = refl
  same_steps before a b [] (y ∷ ys) m n first second e = absurd (cc)
  same_steps before a b (x ∷ xs) [] m n first second e = absurd (cc)
  same_steps before a b (x ∷ xs) (y ∷ ys) m n first second e =
      let heads : cs x ≡ cs y = cc in
      let tails : map cs xs ≡ map cs ys = cc in
      let same : x ≡ y =
      same_Some x y (sym (found before first.0 x first.1 first.3) ∙ ap found_in heads ∙ found before second.0 y second.1 second.3) in
      let also = subst (λ s. IsStep task known before s second.0 second.1) (sym same) second.3 in
      let middle = (step_determined task known before first.0 second.0 x first.1 second.1 first.3 also).0 in
      let rest = same_steps first.0 a b xs ys first.2 second.2 first.4
      (subst (λ s. Executes task known s ys b second.2) (sym middle) second.4) tails in
      λ i. same i ∷ rest i

  -- the last step of calls that can be taken
  record Last (calls : List Call) (call : Call) : Type 0 where
    front : List GroundAction
    last : GroundAction
    shown : calls ≡ map cs front
    is : call ≡ cs last
    state : Atoms
    after : Atoms
    cost : ℕ
    more : ℕ
    runs : Executes task known (initial_state task) front state cost
    step : IsStep task known state last after more

  last_of : (calls : List Call) (call : Call) → CanRun task known (calls ++ call ∷ [])
      → Last calls call
  last_of calls call can =
      let e = ends cs calls call can.steps can.shown in
      let whole = subst (λ steps. Executes task known (initial_state task) steps can.state can.cost) e.2 can.runs in
      let parts = parts_of_whole task known (initial_state task) can.state e.0 (e.1 ∷ []) can.cost whole in
      record {
        front = e.0;
        last = e.1;
        shown = e.3;
        is = e.4;
        state = parts.0;
        after = parts.4.0;
        cost = parts.1;
        more = parts.4.1;
        runs = parts.3;
        step = parts.4.3;
      }

  -- a call of no step can't be taken
  pub no_step : (calls : List Call) (call : Call) → found_in call ≡ None
      → ¬ (CanRun task known (calls ++ call ∷ []))
  no_step calls call none can =
      let l = last_of calls call can in
      none-some l.last (sym none ∙ ap found_in l.is ∙ found l.state l.after l.last l.more l.step)

  -- a step that isn't applicable can't be taken
  pub step_stuck : (calls : List Call) (call : Call) (run : Run) (step : GroundAction) (fault : StepFault)
      → ¬ (fault ≡ Memory)
      → IsRunOf task known calls run → found_in call ≡ Some step → StepFails task known run.state step fault
      → ¬ (CanRun task known (calls ++ call ∷ []))
  step_stuck calls call run step fault other r is fails can =
      let l = last_of calls call can in
      let same : l.last ≡ step = same_Some l.last step (sym (found l.state l.after l.last l.more l.step) ∙ ap found_in (sym l.is) ∙ is) in
      let fronts = same_steps (initial_state task) l.state run.state l.front r.steps l.cost r.total l.runs r.runs (sym l.shown ∙ r.shown) in
      let ran = subst (λ steps. Executes task known (initial_state task) steps l.state l.cost) fronts l.runs in
      let states =
      (execution_determined task known (initial_state task) r.steps l.state run.state l.cost r.total ran r.runs).0 in
      let there = subst (λ s. IsStep task known s l.last l.after l.more) states l.step in
      let taken = subst (λ s. IsStep task known run.state s l.after l.more) same there in
      step_fails_not task known run.state l.after step l.more fault other taken fails

  -- one step more
  pub step_more : (calls : List Call) (call : Call) (run next : Run) (step : GroundAction) (cost : ℕ)
      → IsRunOf task known calls run
      → found_in call ≡ Some step → IsStep task known run.state step next.state cost
      → ((total : ℕ) → IsSum total run.cost → IsSum (total + cost) next.cost)
      → IsRunOf task known (calls ++ call ∷ []) next
  step_more calls call run next step cost r is taken sum =
      let one : Executes task known run.state (step ∷ []) next.state cost =
      (next.state, cost, 0, taken, (refl, refl), omega arith) in
      record {
        steps = r.steps ++ step ∷ [];
        shown =
            (λ i. r.shown i ++ step_shown task fit known.names coherent.names call step is i ∷ [])
            ∙ sym (map-append cs r.steps (step ∷ []));
        total = r.total + cost;
        runs = whole_of_parts task known (initial_state task) next.state r.steps (step ∷ [])
            (r.total + cost) (run.state, r.total, cost, r.runs, one, refl);
        sum = sum r.total r.sum;
      }

  -- no step was taken
  pub none_taken : (run : Run) → run.state ≡ initial_state task → run.cost ≡ Some 0
      → IsRunOf task known [] run
  none_taken run state cost = record {
    steps = [];
    shown = refl;
    total = 0;
    runs = (sym state, refl);
    sum = subst (IsSum 0) (sym cost) refl;
  }

-- a front that was taken can be taken, and with the next call it is stuck
pub stops_at : (task : Task) (known : Known) (calls : List Call) (place : ℕ) (call : Call) (run : Run)
    → IsRunOf task known (take place calls) run → place < length calls → call ≡ get_or calls place call
    → ¬ (CanRun task known (take place calls ++ call ∷ [])) → StopsAtStep task known calls place
stops_at task known calls place call run r lt is stuck =
    let next : take (place + 1) calls ≡ take place calls ++ call ∷ [] =
    take_more calls place call lt ∙ ap (λ (c : Call). take place calls ++ c ∷ []) (sym is) in
    record {
      within = lt;
      runs = record { steps = r.steps; shown = r.shown; state = run.state; cost = r.total; runs = r.runs };
      stuck = λ can. stuck (subst (CanRun task known) next can);
    }
