use Rattle.std.proofs.Common.{ap, sym, ◌∙◌, subst, ◌<◌, get_or, length}
use Rattle.fact_store.proofs.InitialLemmas.{roles_length, role_is}
use Rattle.fact_store.proofs.initial.role_at.Goals as goal
use Rattle.task_model.specs.declared.domain.Role.TheVariants.{Static}

pub bounds-as_slice-pred : goal.bounds-as_slice-pred
bounds-as_slice-pred c =
    subst (λ n. c.args.pred < n) (sym (ap length c.as_slice.ensures ∙ roles_length c.args.domain.now c.requires.roles)) c.requires.place

pub returns : goal.returns
returns c =
    ap (λ rs. get_or rs c.args.pred Static) c.as_slice.ensures
    ∙ role_is c.args.domain.now c.args.pred Static c.requires.roles c.requires.place
