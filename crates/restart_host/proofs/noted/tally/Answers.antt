use Rattle.std.proofs.Common.{◌≡◌, Err, refl, rules}
use Rattle.io_world.specs.Faults.{last_count}
use Rattle.io_world.specs.declared.host.HostFault.TheVariants.{Failed, Memory}
use Rattle.restart_host.proofs.HostLemmas.{counts_failed, counts_memory}
use Rattle.restart_host.proofs.noted.tally.Goals as goal

pub returns-in-Err-Memory-clause-count : goal.returns-in-Err-Memory-clause-count
returns-in-Err-Memory-clause-count g c =
    let answer : c.args.answer.now ≡ Err Memory = search rules in
    counts_memory last_count _ _ Memory answer refl

pub returns-in-Err-Failed-clause-count : goal.returns-in-Err-Failed-clause-count
returns-in-Err-Failed-clause-count g c =
    let answer : c.args.answer.now ≡ Err Failed = search rules in
    counts_failed last_count _ _ _ Failed answer refl c.raise.ensures.count
