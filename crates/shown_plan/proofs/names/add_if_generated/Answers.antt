use Rattle.std.proofs.Common.{◌≡◌, true, map, ap, ◌∙◌, rules}
use Rattle.shown_plan.proofs.SourcesOrderLemmas.{insert_adds, added}
use Rattle.shown_plan.proofs.names.add_if_generated.Goals as goal
use Rattle.shown_plan.specs.Sources.{is_generated, is_among}

pub returns : goal.returns
returns c = λ other.
    let hash : is_generated c.args.name.now ≡ true = search rules in
    ap (λ ks. is_among (map (λ n. n.now) ks) other) c.in_ok-insert.ensures.keys
    ∙ insert_adds (λ n. n.now) c.args.names.now.keys c.args.name other
    ∙ added (is_among (map (λ n. n.now) c.args.names.now.keys) other) c.args.name.now other hash
