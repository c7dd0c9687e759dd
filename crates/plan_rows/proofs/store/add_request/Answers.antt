use Rattle.std.proofs.lemmas.Bool.{both_ways}
use Rattle.std.proofs.lemmas.Option.{slice_get_within}
use Rattle.plan_rows.proofs.NamesLemmas.{some_there, two_within}
use Rattle.plan_rows.proofs.store.add_request.Goals as goal

pub request_text-requires : goal.request_text-requires
request_text-requires c =
    let names = c.args.facts.now.known.names in
    record {
      stream = some_there c.args.task.now.streams (λ e. both_ways c.is_empty.result c.if-is_empty.false (c.is_empty.ensures.1 e));
      inputs = two_within names c.in-Some.object c.in_ok-inputs.inputs c.in_ok-inputs.ensures.objects
          (slice_get_within names c.in-Some.object _ c.in-Some.ensures.found);
    }
