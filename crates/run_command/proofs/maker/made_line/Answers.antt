use Rattle.std.proofs.Common.{◌≡◌, ◌++◌, ◌∙◌, List, ℕ, ap, append_assoc, codes}
use Rattle.std.proofs.lemmas.Result.{IfOk-weaker}
use Rattle.std.specs.Fmt.{decimal}
use Rattle.run_command.proofs.maker.made_line.Goals as goal

pub returns : goal.returns
returns c =
    let n = decimal c.args.number in
    let l = decimal c.args.ran.now.levels in
    let a = decimal c.args.ran.now.asks in
    let word = c.outcome_word-outcome.result.now in
    let line : List ℕ → List ℕ =
    λ w. codes "generate " ++ n ++ codes " " ++ w ++ codes " levels " ++ l ++ codes " asks " ++ a ++ codes "\n" in
    let same : codes "generate " ++ (n ++ (codes " " ++ (word ++ (codes " levels " ++ (l ++ (codes " asks " ++ (a ++ codes "\n")))))))
    ≡ line word = simp append_assoc in
    IfOk-weaker c.format.result _ _ (λ text is. is ∙ same ∙ ap line c.outcome_word-outcome.ensures) c.format.ensures.ok
