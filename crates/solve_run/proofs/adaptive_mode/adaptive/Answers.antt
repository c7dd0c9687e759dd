use Rattle.std.proofs.Common.{◌≡◌, inl, inr}
use Rattle.std.proofs.lemmas.Bool.{cases_Bool}
use Rattle.transcript_model.specs.declared.head.Mode.TheVariants.{Adaptive, Incremental}
use Rattle.solve_run.proofs.adaptive_mode.adaptive.Goals as goal

-- the cheapest plan is asked for in incremental mode alone
pub run_mode-requires-clause-seeks : goal.run_mode-requires-clause-seeks
run_mode-requires-clause-seeks g c = elim (cases_Bool c.args.head.now.optimal) [
  | inl asked ↦ let no : Adaptive ≡ Incremental = c.requires.may.alone asked in absurd (cc)
  | inr any ↦ any
]
