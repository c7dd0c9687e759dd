use Rattle.std.proofs.Common.{subst, sym}
use Rattle.turn_laws.proofs.PlainOneLemmas.{as_one}
use Rattle.turn_laws.proofs.PlainTurnsLemmas.{as_plain}
use Rattle.transcript_model.specs.Plain.{IsAsPlain}
use Rattle.turn_laws.proofs.plain.pools_do_not_matter.Goals as goal

pub returns : goal.returns
returns c = λ limits others task answers xs ys s t o p fit calls first second not_first not_second.
    as_one task answers limits.calls xs ys o p (as_plain limits task fit answers xs s o first not_first)
    (subst (λ n. IsAsPlain task answers n ys p) (sym calls) (as_plain others task fit answers ys t p second not_second))
