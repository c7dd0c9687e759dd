use Rattle.std.proofs.Common.{◌∙◌, get_or, refl, sym, subst}
use Rattle.gen_lines.specs.Request.{IsNamed}
use Rattle.task_model.specs.Known.{Known}
use Rattle.task_model.specs.declared.stream.Instance.{Instance}
use Rattle.transcript_model.specs.Names.{call_of_instance}
use Rattle.dreaming.proofs.ThinLemmas.{named_entry, numbers_grow, calls_grow}
use Rattle.dreaming.proofs.shown.uses_of.Goals as goal

pub name_instance-requires : goal.name_instance-requires
name_instance-requires c =
    let task = c.args.task.now in
    let d = c.args.supposed.now in
    subst (λ (k : Known). IsNamed task k.names c.instance.result.now) (sym c.look-look.ensures)
    (subst (λ (i : Instance). IsNamed task d.known.names i) (sym c.instance.ensures)
    (named_entry task d (get_or c.args.places.now c.loop-place.place-index 0) c.entry-entry.result.now c.requires.listed
    c.entry-entry.ensures))

pub loop-place-preserved : goal.loop-place-preserved
loop-place-preserved c =
    let task = c.args.task.now in
    let d = c.args.supposed.now in
    let e = c.entry-entry.result.now in
    let call = c.in_ok-call.ensures
    ∙ (λ k. call_of_instance task (c.look-look.ensures k).names (c.instance.ensures k)) in
    record {
      numbers = numbers_grow task d c.args.places.now c.loop-place.place-index c.loop-place.uses.items c.push.new.self.items _ e
          c.loop-place-test.true c.entry-entry.ensures c.in_ok-push.ensures.items refl c.loop-place.invariant.numbers;
      calls = calls_grow task d c.args.places.now c.loop-place.place-index c.loop-place.uses.items c.push.new.self.items _ e
          c.loop-place-test.true c.entry-entry.ensures c.in_ok-push.ensures.items call c.loop-place.invariant.calls;
    }
