use Rattle.std.proofs.Common.{map, string_bytes, subst, sym, Err}
use Rattle.restart_host.specs.Steps.{IsReviving}
use Rattle.restart_host.specs.Tries.{seen_by_host}
use Rattle.restart_host.proofs.StepsLemmas.{revives_again}
use Rattle.restart_host.proofs.TriedLemmas.{tried_again, tried_done, tried_spent}
use Rattle.restart_host.proofs.TriesLemmas.{called_as}
use Rattle.restart_host.proofs.inner.+revive.Goals as goal

pub returns-in-Ok-clause-tried : goal.returns-in-Ok-clause-tried
returns-in-Ok-clause-tried g t c =
    tried_done c.args.child (map string_bytes c.args.words.now) g.H.Host.last c.args.left.now _ _ tt _ c.in-Ok.ensures.called

pub returns-in-Ok-spend-clause-tried : goal.returns-in-Ok-spend-clause-tried
returns-in-Ok-spend-clause-tried g t c =
    tried_again c.args.child (map string_bytes c.args.words.now) g.H.Host.last c.args.left.now c.spend.new.left
    c.revive.new.left _
    (seen_by_host g.H.Host.running g.H.Host.faults g.H.Host.log c.open.new.host) _ c.in-Err.fault c.revive.result _ _ _
    (λ xs ys first rest. revives_again c.args.child (map string_bytes c.args.words.now) c.args.asked.now c.in-Err.fault
    c.revive.result xs ys c.in-Ok-spend.ensures.0 first rest)
    c.in-Err.ensures.called c.in-Ok-spend.ensures
    c.revive.ensures.tried

pub returns-in-Err-spend-clause-tried : goal.returns-in-Err-spend-clause-tried
returns-in-Err-spend-clause-tried g t c =
    tried_spent c.args.child (map string_bytes c.args.words.now) g.H.Host.last c.args.left.now c.spend.new.left _ _
    c.in-Err.fault c.in-Err-spend.refused _
    (called_as c.args.child (map string_bytes c.args.words.now) g.H.Host.last _ _ _ _ _
    (λ events revives. subst (λ f. IsReviving c.args.child (map string_bytes c.args.words.now) c.args.asked.now (Err f) events)
    (sym c.in-Err-spend.ensures.0) revives)
    c.in-Err.ensures.called)
    c.in-Err-spend.ensures
