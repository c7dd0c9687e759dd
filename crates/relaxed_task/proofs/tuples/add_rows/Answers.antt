use Rattle.std.proofs.Common.{◌≡◌, length, true, nat_le, ap, ◌∙◌, subst, IfSome}
use Rattle.std.specs.Cmp.{second_so}
use Rattle.std.specs.List.{list_all}
use Rattle.fact_join.proofs.AnswerLemmas.{readable_terms}
use Rattle.fact_join.specs.Answers.{is_term_of, is_pattern_of}
use Rattle.formula_eval.specs.Readable.{is_readable_term}
use Rattle.relaxed_task.proofs.tuples.add_rows.Goals as goal

pub fit-requires : goal.fit-requires
fit-requires g c =
    let width = length c.args.query.now.sorts.now in
    let lead = c.in-Some-Some.lead.now in
    let inner : is_pattern_of width lead ≡ true =
    subst (λ o. IfSome o (λ atom. is_pattern_of width atom.now ≡ true)) c.in-Some-Some.is-0 c.requires.lead in
    ap (list_all is_readable_term) c.as_slice.ensures
    ∙ readable_terms width lead.args c.requires.narrow
    (second_so (nat_le (length lead.args) 8) (list_all (is_term_of width) lead.args) inner)
