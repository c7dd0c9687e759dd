use Rattle.std.proofs.Common.{◌∙◌, ap, arith, length, sym, take}
use Rattle.io_world.specs.ScriptHostState.{ScriptHostState, most_given, ready}
use Rattle.io_world.proofs.ProgressLemmas.{gave}
use Rattle.io_world.proofs.script_host.ScriptHostHost.read.Goals.{then-fails, else-fails}
use Rattle.io_world.proofs.script_host.ScriptHostHost.read.Goals as goal

pub returns-clause-gets : goal.returns-clause-gets
returns-clause-gets c = elim c.if-fails.branch [
  | then-fails w ↦ absurd (c.if-count-eq0.false w.count-is)
  | else-fails w ↦ record {
    most = w.count-is ∙ w.give-count.ensures.count
        ∙ ap (λ (s : ScriptHostState). most_given s c.args.child (length c.args.room.now)) c.self.view_is;
    bytes = (λ i. take (w.count-is i) (w.room-is i)) ∙ w.give-count.ensures.given
        ∙ (λ i. take (sym w.count-is i) (ready (c.self.view_is i) c.args.child));
    progress = gave c.self.inside.progress c.args.self.now.progress c.args.child c.if-fails.count c.saturating_add.result
        c.progress_of-before.result _ (omega (arith, c.requires.number, c.self.invariant))
        (ap (λ (s : ScriptHostState). s.progress) c.self.view_is) c.progress_of-before.ensures c.saturating_add.ensures;
  }
]
