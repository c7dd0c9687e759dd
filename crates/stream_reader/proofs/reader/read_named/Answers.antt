use Rattle.std.proofs.Common.{◌≡◌, ◌∙◌, sym, subst, Some, None}
use Rattle.sexpr_text.specs.Trees.{tree, trees}
use Rattle.form_reader.specs.Faults.{least_fault}
use Rattle.stream_reader.specs.Names.{stream_plain_names}
use Rattle.stream_reader.specs.Reading.{AnswersAcyclic, AreStreamsNamed}
use Rattle.stream_reader.proofs.ReadingLeastLemmas.{all_named, cycle_fault}
use Rattle.stream_reader.proofs.reader.read_named.Goals as goal

pub returns-in-Some-2 : goal.returns-in-Some-2
returns-in-Some-2 c =
    let none : None ≡ least_fault (stream_plain_names c.in_ok-names.names c.args.domain.now.roles (trees c.body_of-body.result.now)) =
    subst (λ rs. None ≡ least_fault (stream_plain_names c.in_ok-names.names rs (trees c.body_of-body.result.now))) c.as_slice.ensures
    (sym c.in_default.is ∙ c.in_ok-fault.ensures) in
    let found : AnswersAcyclic c.args.domain.now c.in_ok-streams.streams.items (trees c.body_of-body.result.now) (Some c.in-Some-2.fault) =
    subst (AnswersAcyclic c.args.domain.now c.in_ok-streams.streams.items (trees c.body_of-body.result.now)) c.in-Some-2.is
    (subst (λ ss. AnswersAcyclic c.args.domain.now ss (trees c.body_of-body.result.now) c.in_ok-fault-2.field-0)
    c.as_slice-2.ensures.value c.in_ok-fault-2.ensures) in
    cycle_fault c.args.domain.now (tree c.args.text.now) (trees c.body_of-body.result.now) c.in_ok-names.names c.body_of-body.ensures
    c.in_ok-names.ensures c.in_ok-streams.streams.items c.in_ok-streams.ensures c.in-Some-2.fault none found

pub returns : goal.returns
returns c =
    let none : None ≡ least_fault (stream_plain_names c.in_ok-names.names c.args.domain.now.roles (trees c.body_of-body.result.now)) =
    subst (λ rs. None ≡ least_fault (stream_plain_names c.in_ok-names.names rs (trees c.body_of-body.result.now))) c.as_slice.ensures
    (sym c.in_default.is ∙ c.in_ok-fault.ensures) in
    let found : AnswersAcyclic c.args.domain.now c.in_ok-streams.streams.items (trees c.body_of-body.result.now) None =
    subst (AnswersAcyclic c.args.domain.now c.in_ok-streams.streams.items (trees c.body_of-body.result.now)) c.in-None.is
    (subst (λ ss. AnswersAcyclic c.args.domain.now ss (trees c.body_of-body.result.now) c.in_ok-fault-2.field-0)
    c.as_slice-2.ensures.value c.in_ok-fault-2.ensures) in
    subst (AreStreamsNamed c.args.domain.now (tree c.args.text.now)) (sym c.from_vec.ensures)
    (all_named c.args.domain.now (tree c.args.text.now) (trees c.body_of-body.result.now) c.in_ok-names.names c.body_of-body.ensures
    c.in_ok-names.ensures c.in_ok-streams.streams.items c.in_ok-streams.ensures none found)
