use Rattle.std.proofs.Common.{◌≡◌, ap, false, map, string_bytes}
use Rattle.io_world.specs.Leads.{wants_memory}
use Rattle.io_world.specs.Logs.{Calls}
use Rattle.io_world.specs.declared.host.HostFault.TheVariants.{Memory}
use Rattle.restart_host.specs.Tries.{seen_by_host}
use Rattle.restart_host.proofs.TriedLemmas.{tried_before, tried_refused, tried_unheard}
use Rattle.restart_host.proofs.TriesLemmas.{called_none}
use Rattle.restart_host.proofs.noted.write_child.Goals as goal

pub returns-in_default-clause-tried : goal.returns-in_default-clause-tried
returns-in_default-clause-tried g c =
    let lost : c.lose.new.self.whole ≡ false = ap (λ (calls : Calls). calls.whole) c.lose.ensures in
    tried_refused c.args.child (map string_bytes c.args.kept.now.words.items) g.H.Host.last c.args.left.now _ _ Memory _
    (called_none c.args.child (map string_bytes c.args.kept.now.words.items) g.H.Host.last _ _ (λ whole. absurd (cc (lost, whole))))
    (λ is. absurd (cc (is)))

pub returns-in_default-write-clause-tried : goal.returns-in_default-write-clause-tried
returns-in_default-write-clause-tried g c =
    let lost : c.write.new.self.whole ≡ false = ap (λ (calls : Calls). calls.whole) c.in_default-write.ensures.err in
    tried_before c.args.child (map string_bytes c.args.kept.now.words.items) g.H.Host.last c.args.left.now c.bring.new.left _
    (seen_by_host g.H.Host.running g.H.Host.faults g.H.Host.log c.bring.new.host) _ _ _ _ _
    (λ xs ys brings ending whole. absurd (cc (lost, whole)))
    (tried_unheard c.args.child (map string_bytes c.args.kept.now.words.items) g.H.Host.last c.args.left.now c.bring.new.left _ _
    c.bring.result _ _ (λ events brings. brings) c.bring.ensures.tried)
    (c.end.ensures.called (map string_bytes c.args.kept.now.words.items))

pub returns-in_default-write-clause-leads : goal.returns-in_default-write-clause-leads
returns-in_default-write-clause-leads g c = record {
  wanted = wants_memory c.bring.result;
  quiet = λ is. absurd (cc (is));
  leads = g.met.H.Host.ends _ _ _ _ c.bring.ensures.leads c.end.ensures.leads;
}
