use Rattle.transcript_model.proofs.LegalOnceLemmas.{not_twice}
use Rattle.transcript_model.proofs.laws.no_request_is_made_twice.Goals as goal

pub returns : goal.returns
returns c =
    λ version task entries j k n m turn call again i fit legal first second named renamed.
    not_twice version task fit.problem.objects.names.distinct entries j k n m turn call again i legal first second named renamed
