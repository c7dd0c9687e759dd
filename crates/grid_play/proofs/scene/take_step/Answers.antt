use Rattle.std.proofs.Common.{◌≡◌, ◌++◌, true, Option, Some, None, is_some, unwrap_or, sym, subst, ap, ◌∙◌, rules}
use Rattle.std.proofs.lemmas.List.{places}
use Rattle.std.specs.Prelude.{IfOk, Result, Ok, Err}
use Rattle.grid_play.specs.Faults.{mark_in}
use Rattle.grid_play.specs.Steps.{IsClashVerdict, IsPutVerdict, IsStepVerdict}
use Rattle.grid_play.specs.Worlds.{after_move, move_of, step_world}
use Rattle.grid_play.specs.declared.play.PlayVerdict.TheVariants.{Safe}
use Rattle.grid_play.proofs.StepLemmas.{clash_verdict, laid_verdict, made_world, put_marks}
use Rattle.grid_play.proofs.scene.take_step.Goals as goal

-- what was made is the world after the move
some_new : {A : Type 0} (o : Option A) (old new : A) → is_some o ≡ true → new ≡ unwrap_or o old → o ≡ Some new
some_new None old new e is = absurd (cc)
some_new (Some x) old new e is = ap Some (sym is)

if_ok : {A E : Type 0} (r : Result A E) (P Q : A → Type 0) → ((x : A) → P x → Q x) → IfOk r P → IfOk r Q
if_ok (Ok x) P Q so is = so x is
if_ok (Err e) P Q so is = tt

pub returns-in-Safe-clause-verdict : goal.returns-in-Safe-clause-verdict
returns-in-Safe-clause-verdict c =
    let grid = c.args.grid.now in
    let world = c.args.scene.now.world.items in
    let call = c.args.call.now in
    let action = c.in-Some.action in
    let next = c.make.new.world in
    let move : move_of grid call ≡ Some action = sym c.in-Some.ensures in
    let before : c.as_mut_slice.result.now ≡ world = c.as_mut_slice.ensures.value in
    let made : c.make.result ≡ true = c.if-not-make.false in
    let after : after_move world action ≡ Some next =
    subst (λ w. after_move w action ≡ Some next) before
    (some_new (after_move c.as_mut_slice.result.now action) c.as_mut_slice.result.now next (sym c.make.ensures.made ∙ made) c.make.ensures.world) in
    let stepped : step_world grid world call ≡ Some next = made_world grid world call action move ∙ after in
    let safe : IsPutVerdict grid c.args.step action Safe = subst (IsPutVerdict grid c.args.step action) c.in-Safe.is c.in_ok-fault.ensures in
    let same : c.as_slice.result.now ≡ next = search (rules, places) in
    if_ok c.clash_after.result (IsClashVerdict grid c.as_slice.result.now c.args.step) (IsStepVerdict grid world c.args.step call)
    (λ v is. clash_verdict grid world next c.args.step call stepped action move safe v (subst (λ w. IsClashVerdict grid w c.args.step v) same is))
    c.clash_after.ensures

pub returns-in_default-2 : goal.returns-in_default-2
returns-in_default-2 c =
    let grid = c.args.grid.now in
    let world = c.args.scene.now.world.items in
    let call = c.args.call.now in
    let action = c.in-Some.action in
    let next = c.make.new.world in
    let fault = c.in_ok-fault.fault in
    let move : move_of grid call ≡ Some action = sym c.in-Some.ensures in
    let before : c.as_mut_slice.result.now ≡ world = c.as_mut_slice.ensures.value in
    let made : c.make.result ≡ true = c.if-not-make.false in
    let after : after_move world action ≡ Some next =
    subst (λ w. after_move w action ≡ Some next) before
    (some_new (after_move c.as_mut_slice.result.now action) c.as_mut_slice.result.now next (sym c.make.ensures.made ∙ made) c.make.ensures.world) in
    let stepped : step_world grid world call ≡ Some next = made_world grid world call action move ∙ after in
    record {
      verdict = laid_verdict grid world next c.args.step call stepped action move fault c.in_ok-fault.ensures c.in_default-2.not-Safe;
      world = λ safe. absurd (c.in_default-2.not-Safe safe);
      marks =
          c.in_ok-push.ensures.items
          ∙ ap (λ ms. c.args.scene.now.marks.items ++ ms)
          (c.in_ok-mark.ensures ∙ ap (mark_in grid c.args.step) (sym move) ∙ sym (put_marks grid c.args.step call action fault c.in_ok-fault.ensures));
    }
