use Rattle.std.proofs.Common.{◌∙◌, ap}
use Rattle.std.specs.List.{list_any}
use Rattle.transcript_model.specs.Legal.{is_ask_of}
use Rattle.transcript_model.proofs.LegalNumberLemmas.{next_is_fresh}
use Rattle.transcript_model.proofs.LegalStepLemmas.{request_adds}
use Rattle.transcript_model.proofs.laws.requests_add_requests.Goals as goal

pub returns : goal.returns
returns c =
    λ version task before number turn call stream i fit legal right named there.
    request_adds version task before fit.problem.objects.names.distinct legal number turn call stream i right
    (ap (λ n. list_any (is_ask_of n) before) right.next ∙ next_is_fresh version task before legal) named there
