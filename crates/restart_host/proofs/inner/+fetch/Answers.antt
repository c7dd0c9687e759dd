use Rattle.std.proofs.Common.{map, string_bytes, Err, refl, subst, sym}
use Rattle.restart_host.specs.Steps.{IsFetching}
use Rattle.restart_host.specs.Tries.{seen_by_host}
use Rattle.restart_host.proofs.KeepsLemmas.{fetches_again, fetches_none, fetches_then}
use Rattle.restart_host.proofs.TriedLemmas.{tried_again, tried_done, tried_joined, tried_spent}
use Rattle.restart_host.proofs.TriesLemmas.{called_as, called_none}
use Rattle.restart_host.proofs.inner.+fetch.Goals as goal

pub returns-then-kept-gt0-clause-tried : goal.returns-then-kept-gt0-clause-tried
returns-then-kept-gt0-clause-tried g t c =
    tried_done c.args.child (map string_bytes c.args.kept.now.words.items) g.H.Host.last c.args.left.now _ _ tt _
    (called_none c.args.child (map string_bytes c.args.kept.now.words.items) g.H.Host.last _ _
    (fetches_none c.args.child c.args.kept.now.asked.items c.args.kept.now.life))

pub returns-in-Ok-hear-clause-tried : goal.returns-in-Ok-hear-clause-tried
returns-in-Ok-hear-clause-tried g t c =
    tried_joined c.args.child (map string_bytes c.args.kept.now.words.items) g.H.Host.last c.args.left.now
    c.wake.new.left c.wake.new.left _
    (seen_by_host g.H.Host.running g.H.Host.faults g.H.Host.log c.wake.new.host) _ c.in-Ok.field-0 _ _ _ _
    (λ xs ys woke hears. fetches_then c.args.child c.args.kept.now.asked.items c.args.kept.now.life c.wake.new.kept.life _ _ xs ys
    woke (hears c.args.kept.now.asked.items))
    c.in-Ok.ensures.tried
    (tried_done c.args.child (map string_bytes c.args.kept.now.words.items) g.H.Host.last c.wake.new.left _ _ tt _
    (c.in-Ok-hear.ensures.called (map string_bytes c.args.kept.now.words.items)))

pub returns-in-Ok-spend-clause-tried : goal.returns-in-Ok-spend-clause-tried
returns-in-Ok-spend-clause-tried g t c =
    tried_joined c.args.child (map string_bytes c.args.kept.now.words.items) g.H.Host.last c.args.left.now
    c.wake.new.left c.fetch.new.left _
    (seen_by_host g.H.Host.running g.H.Host.faults g.H.Host.log c.wake.new.host) _ c.in-Ok.field-0 _ _ _ _
    (λ xs ys woke again. fetches_then c.args.child c.args.kept.now.asked.items c.args.kept.now.life c.wake.new.kept.life _ _ xs ys
    woke again)
    c.in-Ok.ensures.tried
    (tried_again c.args.child (map string_bytes c.args.kept.now.words.items) g.H.Host.last c.wake.new.left
    c.spend.new.left
    c.fetch.new.left _ (seen_by_host g.H.Host.running g.H.Host.faults g.H.Host.log c.hear.new.host) _
    c.in-Err-hear.fault c.fetch.result _ _ _
    (λ xs ys hears again. fetches_again c.args.child c.args.kept.now.asked.items c.wake.new.kept.life c.hear.new.life
    c.fetch.new.kept.life c.in-Err-hear.fault c.fetch.result xs ys c.in-Ok-spend.ensures.0 (hears c.args.kept.now.asked.items)
    (subst (λ bs. IsFetching c.args.child bs c.hear.new.life c.fetch.new.kept.life c.fetch.result ys)
    (rw c.in-Ok.ensures.kept.2 refl) again))
    (c.in-Err-hear.ensures.called (map string_bytes c.args.kept.now.words.items)) c.in-Ok-spend.ensures
    (rw c.in-Ok.ensures.kept.1 at c.fetch.ensures.tried))

pub returns-in-Err-spend-clause-tried : goal.returns-in-Err-spend-clause-tried
returns-in-Err-spend-clause-tried g t c =
    tried_joined c.args.child (map string_bytes c.args.kept.now.words.items) g.H.Host.last c.args.left.now
    c.wake.new.left c.spend.new.left _
    (seen_by_host g.H.Host.running g.H.Host.faults g.H.Host.log c.wake.new.host) _ c.in-Ok.field-0 _ _ _ _
    (λ xs ys woke hears. fetches_then c.args.child c.args.kept.now.asked.items c.args.kept.now.life c.wake.new.kept.life _ _ xs ys
    woke hears)
    c.in-Ok.ensures.tried
    (tried_spent c.args.child (map string_bytes c.args.kept.now.words.items) g.H.Host.last c.wake.new.left
    c.spend.new.left _ _
    c.in-Err-hear.fault c.in-Err-spend.refused _
    (called_as c.args.child (map string_bytes c.args.kept.now.words.items) g.H.Host.last _ _ _ _ _
    (λ events hears. subst (λ f. IsFetching c.args.child c.args.kept.now.asked.items c.wake.new.kept.life c.hear.new.life (Err f) events)
    (sym c.in-Err-spend.ensures.0) (hears c.args.kept.now.asked.items))
    (c.in-Err-hear.ensures.called (map string_bytes c.args.kept.now.words.items)))
    c.in-Err-spend.ensures)

pub returns-in-Err-clause-tried : goal.returns-in-Err-clause-tried
returns-in-Err-clause-tried g t c = c.in-Err.ensures.tried
