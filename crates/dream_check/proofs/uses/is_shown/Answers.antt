use Rattle.std.proofs.Common.{◌∙◌, sym, ap}
use Rattle.std.proofs.lemmas.Option.{same_Some}
use Rattle.task_model.specs.Dreams.{SupposedEntry}
use Rattle.task_model.specs.Streams.{same_instance}
use Rattle.dream_check.proofs.CallsLemmas.{distinct, shown_nowhere, shown_where}
use Rattle.dream_check.proofs.uses.is_shown.Goals as goal

pub instance_of-requires-clause-fit : goal.instance_of-requires-clause-fit
instance_of-requires-clause-fit c = c.requires.listing.plain.base.fit

pub instance_of-requires-clause-distinct : goal.instance_of-requires-clause-distinct
instance_of-requires-clause-distinct c =
    let l = c.args.listing.now in
    distinct l.task.now l.supposed.now c.requires.listing c.args.table.now c.requires.names c.args.place c.entry-entry.result.now
    c.entry-entry.ensures c.args.call.now

pub returns-in-Some : goal.returns-in-Some
returns-in-Some c = λ e at.
    let l = c.args.listing.now in
    let one =
    c.instance-instance.ensures
    ∙ ap (λ (x : SupposedEntry). x.instance) (same_Some c.entry-entry.result.now e (sym c.entry-entry.ensures ∙ at)) in
    shown_where l.task.now l.supposed.now c.requires.listing c.args.table.now c.requires.names c.args.place e at c.args.call.now
    c.in-Some.other c.eq.result (sym c.in_ok-other.ensures ∙ c.in-Some.is) (c.eq.ensures ∙ ap (same_instance c.in-Some.other) one)

pub returns-in-None : goal.returns-in-None
returns-in-None c = λ e at.
    let l = c.args.listing.now in (
      λ yes. absurd (cc),
      λ shown.
          absurd (shown_nowhere l.task.now l.supposed.now c.requires.listing c.args.table.now c.requires.names c.args.place e at
          c.args.call.now (sym c.in_ok-other.ensures ∙ c.in-None.is) shown),
    )
