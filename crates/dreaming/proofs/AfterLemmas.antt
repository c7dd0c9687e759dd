-- Dreams after a transcript: what a session knows, and what an answer over a list means then.
use Rattle.std.proofs.Common.{◌≡◌, ℕ, ◌≤◌, inl, arith, false, true, cond, ◌&&◌, List, [], ◌∷◌, ◌++◌, length, map, take, sym, ap, subst, ◌∙◌, Some, slice_get, Result}
use Rattle.std.proofs.lemmas.List.{length-map, take_all}
use Rattle.std.proofs.lemmas.Option.{same_Some}
use Rattle.std.proofs.lemmas.List.Elements.{All-nil, All-head, All-tail, All-append}
use Rattle.std.specs.Cmp.{first_so}
use Rattle.std.specs.List.{list_any, list_all, flat_map}
use Rattle.std.proofs.lemmas.Result.{IfOk-weaker}
use Rattle.std.specs.Prelude.{IfOk}
use Rattle.learning.proofs.OutputsLemmas.{names_grow}
use Rattle.turn_laws.proofs.DreamFreshLemmas.{each_is_fresh}
use Rattle.turn_laws.proofs.DreamListLemmas.{list_supported}
use Rattle.lemmas.proofs.ListTests.{all_at, all_by_place, all_one}
use Rattle.optimistic_set.specs.Dreamable.{Dreamable, AreReal}
use Rattle.optimistic_set.specs.Entries.{ArePlainEntries}
use Rattle.session_core.specs.Session.{IsSession, IsLearnt}
use Rattle.session_core.specs.State.{State}
use Rattle.task_model.specs.Dreams as dreams
use Rattle.task_model.specs.Dreams.{AreSupposed, HasFreshOutputs, supposing}
use Rattle.task_model.specs.Fit.{IsFit, is_name, is_letter, is_name_byte}
use Rattle.task_model.specs.Initial.{declared_names}
use Rattle.task_model.specs.Known.{Known, same_numbers, with_name, with_names}
use Rattle.task_model.specs.Streams.{Note}
use Rattle.task_model.specs.declared.stream.Instance.{Instance}
use Rattle.task_model.specs.declared.domain.Declared.{Declared}
use Rattle.task_model.specs.declared.task.GroundAction.{GroundAction}
use Rattle.task_model.specs.declared.task.Task.{Task}
use Rattle.transcript_model.proofs.NamedObjectLemmas.{all_joined}
use Rattle.transcript_model.specs.Calls.{call_of_step}
use Rattle.transcript_model.specs.Dreaming.{MoreAreSupposed}
use Rattle.transcript_model.specs.Names.{generated}
use Rattle.transcript_model.specs.Rounds.{Limits}
use Rattle.transcript_model.specs.Transcript.{objects_in, names_of, known_of, notes_of}
use Rattle.transcript_model.specs.declared.entry.Entry.{Entry}
use Rattle.transcript_model.specs.declared.entry.Entry.TheVariants as entry
use Rattle.dreaming.proofs.ThinLemmas.{dream_after, known_plan, sure_none}
use Rattle.dreaming.specs.Answers.{HasSureNoDreamAfter, IsDreamed, IsKnownPlan, IsSureNone, HasFewDreamSteps, IsThinDream, ComesOfList}
use Rattle.dreaming.specs.Parts.{IsListed}
use Rattle.dreaming.specs.declared.answer.Dreamt.{Dreamt}
use Rattle.dreaming.specs.declared.answer.Dreamt.TheVariants.{Dream, Empty}

-- ---- names are real

abbrev IsReal : List ℕ → Type 0
IsReal name = ¬ (slice_get name 0 ≡ Some 64)

reals_one : (names : List (List ℕ)) (name : List ℕ) → AreReal names → IsReal name → AreReal (with_name names name)
reals_one names name all one =
    elim (list_any (same_numbers name) names) as (λ b. AreReal (cond b names (names ++ name ∷ [])))
    [ true ↦ all | false ↦ All-append IsReal names (name ∷ []) all (all_one IsReal name one) ]

reals_more : (names more : List (List ℕ)) → AreReal names → AreReal more → AreReal (with_names names more)
reals_more names [] all others = all
reals_more names (name ∷ more) all others =
    reals_more (with_name names name) more (reals_one names name all (All-head IsReal name more others)) (All-tail IsReal name more others)

names_start : (name : List ℕ) → is_name name ≡ true → IsReal name
names_start [] e at = absurd (cc)
names_start (byte ∷ bytes) e at =
    let is : byte ≡ 64 = same_Some byte 64 at in
    let letter : is_letter byte ≡ true = first_so (is_letter byte) _ (first_so (is_letter byte && list_all is_name_byte bytes) _ e) in
    let no : is_letter 64 ≡ true = subst (λ n. is_letter n ≡ true) is letter in
    absurd (cc)

generated_real : (value : List ℕ) → IsReal (generated value)
generated_real value at = let no : 35 ≡ 64 = same_Some 35 64 at in absurd (omega (arith, no))

all_generated : (values : List (List ℕ)) → AreReal (map generated values)
all_generated [] = All-nil IsReal
all_generated (v ∷ vs) =
    All-append IsReal (generated v ∷ []) (map generated vs) (all_one IsReal (generated v) (generated_real v)) (all_generated vs)

entry_real : (e : Entry) → AreReal (objects_in e)
entry_real (entry.Got number tuples values) = all_generated values
entry_real entry.Level = All-nil IsReal
entry_real (entry.Ask number turn call) = All-nil IsReal
entry_real (entry.Value number value) = All-nil IsReal
entry_real (entry.End number) = All-nil IsReal
entry_real (entry.Dream uses steps) = All-nil IsReal
entry_real entry.Nothing = All-nil IsReal
entry_real entry.Reset = All-nil IsReal
entry_real (entry.Pick number) = All-nil IsReal
entry_real (entry.Retire number) = All-nil IsReal

pub names_real : (task : Task) → IsFit task → (entries : List Entry) → AreReal (names_of task entries)
names_real task fit entries =
    reals_more (declared_names task) (flat_map objects_in entries)
    (all_by_place IsReal (declared_names task)
    (λ k name at. names_start name (all_at is_name (declared_names task) k name fit.problem.objects.names.each at)))
    (all_joined IsReal objects_in entries (λ k e at. entry_real e))

-- ---- what a session knows

module _ (task : Task) (s : State) (h : IsSession task s) (working : s.failed ≡ false) (learnt : IsLearnt s) where
  whole : take s.learnt s.entries ≡ s.entries
  whole = ap (λ n. take n s.entries) learnt.all ∙ take_all (length s.entries) s.entries (omega arith)

  pub session_known : s.known ≡ known_of task s.entries
  session_known = h.known working ∙ ap (known_of task) whole

  pub session_notes : s.notes ≡ notes_of task s.entries
  session_notes = h.notes working ∙ ap (notes_of task) whole

-- ---- the list

pub listed : (task : Task) (known : Known) (notes : List Note) (tried : List Instance) (depth : ℕ) (d : Dreamable)
    → d.base ≡ known → AreSupposed task known notes tried depth d.list → d.known ≡ supposing task known d.list d.list
    → ArePlainEntries task d.base d.list → IsListed task d
listed task known notes tried depth d base so is plain = record {
  plain = plain;
  fresh = subst (λ k. (n : ℕ) (e : dreams.SupposedEntry) → slice_get d.list n ≡ Some e → HasFreshOutputs task k (take n d.list) e)
      (sym base)
      (each_is_fresh task known notes tried depth d.list so);
  support = subst (λ k. dreams.HaveSupport task k d.list d.list) (sym base) (list_supported task known notes tried depth d.list so);
  known = is ∙ ap (λ k. supposing task k d.list d.list) (sym base);
}

-- ---- answers

pub thin_comes : (task : Task) (d : Dreamable) (steps : List GroundAction) (most : ℕ) → length steps ≤ most → (x : Dreamt)
    → IsThinDream task d steps x → ComesOfList task d most x
thin_comes task d steps most few (Dream uses shown entries plan cost) t = (t.0, omega (arith, few, ap length t.1))
thin_comes task d steps most few Empty t = absurd t

pub names_enough : (task : Task) (entries : List Entry) → length task.problem.objects ≤ length (names_of task entries)
names_enough task entries =
    omega (
      arith,
      names_grow (declared_names task) (flat_map objects_in entries),
      length-map task.problem.objects (λ (o : Declared). o.name),
    )

module _ (limits : Limits) (task : Task) (before : List Entry) (tried : List Instance) (d : Dreamable)
    (h : IsListed task d) (base : d.base ≡ known_of task before)
    (so : AreSupposed task (known_of task before) (notes_of task before) tried limits.depth d.list) where
  pub dreamed : (most : ℕ) (x : Dreamt) → ComesOfList task d most x → IsDreamed limits task before tried x
  dreamed most (Dream uses steps entries plan cost) c =
      dream_after limits task before tried d h base uses steps entries.items plan.steps cost so c.0
  dreamed most Empty c = tt

  pub sure : (x : Dreamt) → ComesOfList task d limits.states x → IsSureNone limits task before tried x
  sure (Dream uses steps entries plan cost) c = tt
  sure Empty c = sure_none limits task before tried d h base so c

pub plan_known : (task : Task) (before : List Entry) (d : Dreamable) (h : IsListed task d) (base : d.base ≡ known_of task before)
    (most : ℕ) (x : Dreamt) → ComesOfList task d most x → IsKnownPlan task before x
plan_known task before d h base most (Dream uses steps entries plan cost) c =
    known_plan task before d h base uses steps entries.items plan.steps cost c.0
plan_known task before d h base most Empty c = tt

pub few_steps : (task : Task) (d : Dreamable) (most : ℕ) (x : Dreamt) → ComesOfList task d most x → HasFewDreamSteps most x
few_steps task d most (Dream uses steps entries plan cost) c =
    (c.1, omega (arith, c.1, ap length c.0.shown, length-map plan.steps (call_of_step task d.known.names)))
few_steps task d most Empty c = tt

-- ---- what is found after a transcript

module _ (task : Task) (s : State) (h : IsSession task s) (working : s.failed ≡ false) (learnt : IsLearnt s) (tried : List Instance)
    (depth : ℕ) (known : Known) (notes : List Note) (of_known : known ≡ s.known) (of_notes : notes ≡ s.notes) where
  pub there : known ≡ known_of task s.entries
  there = of_known ∙ session_known task s h working learnt

  told : notes ≡ notes_of task s.entries
  told = of_notes ∙ session_notes task s h working learnt

  supposed_there : (limits : Limits) → limits.depth ≡ depth → (list : List dreams.SupposedEntry)
      → AreSupposed task known notes tried depth list
      → AreSupposed task (known_of task s.entries) (notes_of task s.entries) tried limits.depth list
  supposed_there limits deep list so =
      subst (λ n. AreSupposed task (known_of task s.entries) (notes_of task s.entries) tried n list) (sym deep)
      (subst (λ ns. AreSupposed task (known_of task s.entries) ns tried depth list) told
      (subst (λ k. AreSupposed task k notes tried depth list) there so))

  module _ (d : Dreamable) (base : d.base ≡ known) (so : AreSupposed task known notes tried depth d.list) (l : IsListed task d) (most : ℕ)
      {E : Type 0} (r : Result Dreamt E) (of_list : IfOk r (ComesOfList task d most)) where
    pub session_dreams : (limits : Limits) → limits.depth ≡ depth → IfOk r (IsDreamed limits task s.entries tried)
    session_dreams limits deep =
        IfOk-weaker r (ComesOfList task d most) (IsDreamed limits task s.entries tried)
        (dreamed limits task s.entries tried d l (base ∙ there) (supposed_there limits deep d.list so) most) of_list

    pub session_knows : IfOk r (IsKnownPlan task s.entries)
    session_knows =
        IfOk-weaker r (ComesOfList task d most) (IsKnownPlan task s.entries) (plan_known task s.entries d l (base ∙ there) most) of_list

    pub session_few : IfOk r (HasFewDreamSteps most)
    session_few = IfOk-weaker r (ComesOfList task d most) (HasFewDreamSteps most) (few_steps task d most) of_list

    pub session_sure : (limits : Limits) → limits.depth ≡ depth → limits.states ≡ most
        → IfOk r (IsSureNone limits task s.entries tried)
    session_sure limits deep same =
        IfOk-weaker r (ComesOfList task d most) (IsSureNone limits task s.entries tried)
        (λ x c. sure limits task s.entries tried d l (base ∙ there) (supposed_there limits deep d.list so) x
        (subst (λ n. ComesOfList task d n x) (sym same) c)) of_list

  -- too many entries
  pub session_full : MoreAreSupposed 20000 task known notes tried depth → (limits : Limits) → limits.depth ≡ depth
      → HasSureNoDreamAfter limits task s.entries tried
  session_full more limits deep =
      inl (subst (λ n. MoreAreSupposed 20000 task (known_of task s.entries) (notes_of task s.entries) tried n) (sym deep)
      (subst (λ ns. MoreAreSupposed 20000 task (known_of task s.entries) ns tried depth) told
      (subst (λ k. MoreAreSupposed 20000 task k notes tried depth) there more)))
