-- The first line of a head that breaks a rule.
use Rattle.std.proofs.Common.{◌≡◌, ℕ, ◌+◌, ◌<◌, ◌≤◌, ◌⊎◌, inl, inr, List, take, length, refl, sym, ap, subst, ◌∙◌, Some, slice_get, true, false, arith, IfSome}
use Rattle.std.proofs.lemmas.Bool.{cases_lt}
use Rattle.lemmas.proofs.Bools.{not_both}
use Rattle.lemmas.proofs.Members.{get_and_take}
use Rattle.lemmas.proofs.ListTests.{get_there}
use Rattle.task_model.specs.declared.task.Task.{Task}
use Rattle.transcript_model.specs.declared.head.PoolLine.{PoolLine}
use Rattle.transcript_model.specs.declared.report.Report.{Report}
use Rattle.replay_check.specs.Breaches.{BreaksHead}
use Rattle.replay_check.specs.Heads.{AreFitPoolLines, are_fit_limits, is_fit_pool}
use Rattle.legal_report.specs.Lines.{line_behind_pools}

module _ (task : Task) (r : Report) (place : ℕ) (limits : are_fit_limits r ≡ true)
    (fit : AreFitPoolLines task (take place r.pools)) (within : place < length r.pools) where
  not_earlier : (b : ℕ) (pool : PoolLine) → slice_get r.pools b ≡ Some pool
      → is_fit_pool task (take b r.pools) pool ≡ false → b < place → ⊥
  not_earlier b pool at wrong lt =
      let front = get_and_take r.pools b place pool lt at in
      not_both _ (ap (λ (ps : List PoolLine). is_fit_pool task ps pool) (sym front.1) ∙ fit b pool front.0) wrong

  none_before : (other : ℕ) → BreaksHead task r other → place + 3 ≤ other
  none_before other (inl (at, wrong)) = absurd (not_both _ limits wrong)
  none_before other (inr (inl b)) = by (cases_lt b.place place)
    where
      by : (b.place < place) ⊎ (place ≤ b.place) → place + 3 ≤ other
      by (inl lt) = absurd (not_earlier b.place b.pool b.there b.wrong lt)
      by (inr le) = let is = b.is in omega (arith, is, le)
  none_before other (inr (inr (at, wrong))) = omega (arith, at, within)

  pub first_wrong : IfSome (slice_get r.pools place) (λ pool. is_fit_pool task (take place r.pools) pool ≡ false)
      → BreaksHead task r (place + 3) × (place + 3 ≤ line_behind_pools r) × ((other : ℕ) → BreaksHead task r other → place + 3 ≤ other)
  first_wrong said =
      let here = get_there r.pools place within in
      let wrong = subst (λ o. IfSome o (λ pool. is_fit_pool task (take place r.pools) pool ≡ false)) here.1 said in (
        inr (inl (record { place = place; pool = here.0; there = here.1; wrong = wrong; is = refl })),
        omega (arith, within),
        none_before,
      )
