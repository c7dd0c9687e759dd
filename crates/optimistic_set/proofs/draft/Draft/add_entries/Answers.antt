use Rattle.std.proofs.Common.{◌++◌, length, subst, sym, refl}
use Rattle.std.proofs.lemmas.Option.{slice_get_read}
use Rattle.task_model.specs.Known.{Known}
use Rattle.optimistic_set.proofs.DraftLemmas.{instance_in_draft}
use Rattle.optimistic_set.proofs.PassLemmas.{adds_more}
use Rattle.optimistic_set.specs.Drafts.{IsDraft, IsPlainInstance, IsPushed}
use Rattle.optimistic_set.proofs.draft.Draft.add_entries.Goals as goal

pub add_entry-requires-clause-instance : goal.add_entry-requires-clause-instance
add_entry-requires-clause-instance c =
    let task = c.args.task.now in
    let known = c.args.self.now.facts.now.known in
    let here = c.loop-instance.self in
    let i = c.instance-item.result in
    let at = slice_get_read c.args.instances.now (length c.args.instances.now) c.loop-instance.instance-index i refl
    c.loop-instance-test.true c.instance-item.is in
    subst (λ (k : Known). IsPlainInstance task (k.names ++ here.names.items) i) (sym c.loop-instance.invariant.draft.base)
    (instance_in_draft task known c.requires.base c.args.self.now here c.loop-instance.invariant.added.more i c.requires.draft
    c.loop-instance.invariant.draft c.loop-instance.invariant.added.added
    (c.requires.instances c.loop-instance.instance-index i at))

pub loop-instance-preserved : goal.loop-instance-preserved
loop-instance-preserved c =
    let task = c.args.task.now in
    let known = c.args.self.now.facts.now.known in
    let here = c.loop-instance.self in
    let i = c.instance-item.result in
    let e = c.loop-instance.invariant.draft.base in
    record {
      draft = subst (λ (k : Known). IsDraft task k c.add_entry.new.self) e c.in_ok-add_entry.ensures.draft;
      added = adds_more task known c.args.self.now.entries.items here.entries.items c.add_entry.new.self.entries.items c.args.instances.now
          c.loop-instance.instance-index i c.loop-instance-test.true c.instance-item.is c.loop-instance.invariant.added
          (subst (λ (k : Known). IsPushed task k i here.entries.items c.add_entry.new.self.entries.items) e
          c.in_ok-add_entry.ensures.pushed);
    }
