use Rattle.std.proofs.Common.{sym, ap, ◌∙◌, false, ◌==◌, get_or, ◌≡◌, arith}
use Rattle.std.specs.List.{list_any}
use Rattle.std.proofs.lemmas.Bool.{le-ltb}
use Rattle.std.proofs.lemmas.List.{get_or_past}
use Rattle.fit_check.proofs.FilledLemmas.{flag_at}
use Rattle.fit_check.proofs.slots.Slots.has.Goals as goal

pub returns-then-slot-lt-SLOTS : goal.returns-then-slot-lt-SLOTS
returns-then-slot-lt-SLOTS c =
    sym (flag_at c.self.inside.filled c.args.slot)
    ∙ ap (list_any (λ n. n == c.args.slot)) c.self.view_is

pub returns-else-slot-lt-SLOTS : goal.returns-else-slot-lt-SLOTS
returns-else-slot-lt-SLOTS c =
    let past : get_or c.self.inside.filled c.args.slot false ≡ false =
    get_or_past c.self.inside.filled c.args.slot false (omega (arith, c.self.told)) in
    le-ltb c.args.slot 16 c.if-slot-lt-SLOTS.false ∙ sym past ∙ sym (flag_at c.self.inside.filled c.args.slot)
    ∙ ap (list_any (λ n. n == c.args.slot)) c.self.view_is
