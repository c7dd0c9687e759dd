use Rattle.std.proofs.Common.{◌≡◌, ◌<◌, ◌≤◌, ◌∷◌, [], List, ℕ, All, inl, inr, Some, length, length-append, slice_get, get_or, ap, sym, ◌∙◌, subst, arith}
use Rattle.std.proofs.lemmas.Option.{same_Some}
use Rattle.lemmas.proofs.ListTests.{get_some}
use Rattle.lemmas.proofs.Members.{push_cases}
use Rattle.plan_check.proofs.ReadableLemmas.{fit_action, readable_action}
use Rattle.grounder.proofs.AsksLemmas.{asks_grown}
use Rattle.grounder.specs.Asks.{AreAsks}
use Rattle.grounder.specs.Finder.{AreAllAsks}
use Rattle.grounder.specs.Parts.{tops_of}
use Rattle.grounder.proofs.finder.all_asks.Goals.{in-Some, in-None}
use Rattle.grounder.proofs.finder.all_asks.Goals as goal

pub asks_of-requires-clause-readable : goal.asks_of-requires-clause-readable
asks_of-requires-clause-readable c =
    let domain = c.args.task.now.domain in
    let number = c.loop-number.number in
    let action = c.action-item.result in
    let inside : number < length domain.actions = omega (arith, ap length c.as_slice-action-items.ensures) in
    let named =
    get_some domain.actions number action inside
    (c.action-item.is ∙ ap (λ xs. get_or xs number action) c.as_slice-action-items.ensures) in
    (readable_action domain c.requires.fit.domain action (fit_action domain c.requires.fit.domain number action named)).condition

pub asks_of-requires-clause-few : goal.asks_of-requires-clause-few
asks_of-requires-clause-few c =
    let number = c.loop-number.number in
    let kept = c.index-as_slice-number.result in
    let tables = c.as_slice.result.now in
    let inside : number < length c.args.task.now.domain.actions = omega (arith, ap length c.as_slice-action-items.ensures) in
    let placed : number < length tables = omega (arith, inside, ap length c.as_slice.ensures, c.requires.short.places) in
    let at = ap (λ xs. slice_get xs number) (sym c.as_slice.ensures) ∙ get_some tables number kept placed c.index-as_slice-number.is in
    elim c.match-as_slice-number.branch [
      | in-Some w ↦
          subst (λ (rows : List (List ℕ)). All (λ args. length args ≤ 16) rows)
          (sym (ap (λ r. r.now) w.rows-is ∙ w.as_slice-rows.ensures))
          (c.requires.short.each number w.in-Some.rows (at ∙ ap Some w.in-Some.is))
      | in-None w ↦
          subst (λ (rows : List (List ℕ)). All (λ args. length args ≤ 16) rows)
          (sym (ap (λ r. r.now) w.rows-is)) (λ k d lt. absurd (omega arith))
    ]

pub loop-number-preserved : goal.loop-number-preserved
loop-number-preserved c =
    let domain = c.args.task.now.domain in
    let number = c.loop-number.number in
    let here = c.action-item.result in
    let kept = c.index-as_slice-number.result in
    let tables = c.as_slice.result.now in
    let old = c.loop-number.numbered.keys in
    let new = c.asks_of.new.numbered.keys in
    let asks = c.loop-number.asks.items in
    let added = c.in_ok-asked.asked in
    let inside : number < length domain.actions = omega (arith, ap length c.as_slice-action-items.ensures) in
    let placed : number < length tables = omega (arith, inside, ap length c.as_slice.ensures, c.requires.short.places) in
    let at_kept = ap (λ xs. slice_get xs number) (sym c.as_slice.ensures) ∙ get_some tables number kept placed c.index-as_slice-number.is in
    let named_here =
    get_some domain.actions number here inside
    (c.action-item.is ∙ ap (λ xs. get_or xs number here) c.as_slice-action-items.ensures) in
    let rows_here : (rows : List (List ℕ)) → kept ≡ Some rows → c.match-as_slice-number.rows.now ≡ rows =
    λ rows is. elim c.match-as_slice-number.branch [
      | in-Some w ↦
          ap (λ r. r.now) w.rows-is ∙ w.as_slice-rows.ensures ∙ same_Some w.in-Some.rows rows (sym w.in-Some.is ∙ is)
      | in-None w ↦ absurd (let none = w.in-None.is in cc)
    ] in (
      omega (arith, ap length c.in_ok-push.ensures.items, length-append asks (added ∷ []), c.loop-number.invariant.0),
      (λ n action rows asked named kept_at at.
          elim (push_cases asks added n asked (ap (λ xs. slice_get xs n) (sym c.in_ok-push.ensures.items) ∙ at)) [
            | inl before ↦
                asks_grown domain rows old new c.asks_of.ensures.grows (tops_of action.condition) asked
                (c.loop-number.invariant.1 n action rows asked named kept_at before)
            | inr (last, is) ↦
                let place : n ≡ number = last ∙ c.loop-number.invariant.0 in
                let same = same_Some here action (sym named_here ∙ ap (slice_get domain.actions) (sym place) ∙ named) in
                let these = rows_here rows (same_Some kept (Some rows)
                (sym at_kept ∙ ap (slice_get c.args.candidates.now.actions) (sym place) ∙ kept_at)) in
                subst (AreAsks domain (tops_of action.condition) rows new) (sym is)
                (subst (λ a. AreAsks domain (tops_of a.condition) rows new added) same
                (subst (λ xs. AreAsks domain (tops_of here.condition) xs new added) these c.in_ok-asked.ensures.asks))
          ]),
      c.asks_of.ensures.distinct,
    )

pub returns-clause-asks : goal.returns-clause-asks
returns-clause-asks c =
    subst (AreAllAsks c.args.task.now c.args.candidates.now c.loop-number.numbered.keys) (sym c.from_vec.ensures) (record {
      places = omega (arith, ap length c.as_slice-action-items.ensures, c.loop-number.invariant.0);
      each = c.loop-number.invariant.1;
    })
