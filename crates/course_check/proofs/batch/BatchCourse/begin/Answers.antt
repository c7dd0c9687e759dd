use Rattle.std.proofs.Common.{◌≡◌, ◌∙◌, refl, sym, subst, ap, ◌+◌, ◌-◌, length, arith, nat_lt, List, take}
use Rattle.std.proofs.lemmas.List.{take-map}
use Rattle.instance_queue.specs.Level.{due_instances}
use Rattle.instance_queue.specs.declared.due.Due.{Due}
use Rattle.pools.specs.Pools.{IsLongestFront, shares_of}
use Rattle.course_check.proofs.BatchAgendasLemmas.{first_round}
use Rattle.course_check.specs.BatchAgendas.{Starts, shown_agenda}
use Rattle.course_check.proofs.batch.BatchCourse.begin.Goals as goal

pub returns : goal.returns
returns c =
    let left = c.args.calls - c.args.before in
    let dues = c.truncate.new.self in
    let pools = shares_of c.args.pools.now in
    let count = c.longest_front-self-inside.result in
    let front : IsLongestFront pools (due_instances dues.items) count =
    subst (λ (ds : List Due). IsLongestFront pools (due_instances ds) count) c.as_slice.ensures.value c.longest_front-self-inside.ensures
    in
    let list = take left (due_instances c.args.dues.items) in
    let is : list ≡ due_instances dues.items =
    take-map (λ (d : Due). d.instance) left c.args.dues.items ∙ ap due_instances (sym c.truncate.ensures.items) in
    let long : c.len.result ≡ length c.args.dues.items = omega (arith, c.len.ensures, c.args.dues.ok) in
    subst (λ n. Starts pools list (c.args.before + 1) (nat_lt left n)
    (shown_agenda (record { dues = dues; asked = 0; answered = 0; round = count; before = c.args.before; is_cut = nat_lt left c.len.result })))
    long
    (first_round pools
    (record { dues = dues; asked = 0; answered = 0; round = count; before = c.args.before; is_cut = nat_lt left c.len.result }) list is
    refl refl front)
