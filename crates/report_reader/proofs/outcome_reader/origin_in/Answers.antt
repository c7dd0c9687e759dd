use Rattle.std.proofs.Common.{rules, ◌≡◌, ◌∷◌, codes, cond, ◌==◌, [], List, ℕ}
use Rattle.std.specs.Fmt.{decimal}
use Rattle.report_text.specs.Forms.{IsObject}
use Rattle.report_reader.specs.Finding.{HasNo}
use Rattle.report_reader.proofs.outcome_reader.origin_in.Goals as goal

pub returns-in_default : goal.returns-in_default
returns-in_default c = λ o formed e.
    let begun : c.args.fields.now ≡ codes "from" ∷ c.begin_with.new.self = search rules in
    let none : HasNo IsObject (λ (x : List ℕ). x) c.begin_with.new.self = c.in_default.ensures in
    none o.object (decimal o.number ∷ (cond (c.args.version == 1) [] (decimal o.tuple ∷ []))) formed.object (cc (begun, e))
