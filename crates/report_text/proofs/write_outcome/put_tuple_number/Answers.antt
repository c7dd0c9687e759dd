use Rattle.std.proofs.Common.{◌≡◌, false, rules}
use Rattle.std.specs.Prelude.{◌==◌}
use Rattle.report_text.proofs.PrintsLemmas.{prints_last}
use Rattle.report_text.proofs.TextsLemmas.{tuple_shown}
use Rattle.report_text.proofs.write_outcome.put_tuple_number.Goals as goal

pub returns-clause-told : goal.returns-clause-told
returns-clause-told g c =
    let shown : (c.args.version == 1) ≡ false = search rules in
    prints_last c.put-2.result (g.O.Sink.taken c.args.out.now) (g.O.Sink.taken c.put_number.new.out) (g.O.Sink.taken c.put-2.new.out)
    _ _ _ (tuple_shown c.args.version c.args.tuple shown) c.in_ok-put_number.ensures.told c.put-2.ensures.told
