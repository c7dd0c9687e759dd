use Rattle.std.proofs.Common.{◌≡◌, IsTrue, false, refl, sym, ap, subst, ◌∙◌, ◌++◌, ◌∷◌, [], length, take}
use Rattle.fact_join.proofs.AddingLemmas.{adds_none, adds_one, exceeds_one}
use Rattle.fact_join.proofs.AnswerLemmas.{only_answer}
use Rattle.fact_join.specs.Adding.{Adds}
use Rattle.fact_join.specs.Answers.{IsAnswer}
use Rattle.fact_join.proofs.joins.add_answer.Goals as goal

pub returns-then-not-is_answer-clause-found : goal.returns-then-not-is_answer-clause-found
returns-then-not-is_answer-clause-found g c =
    let P = IsAnswer (g.L.Look.known c.args.query.now.look.now) c.args.query.now.sorts.now (g.W.Wanted.wants c.args.query.now.wanted.now)
    c.args.partial.now [] in
    let only = only_answer (g.L.Look.known c.args.query.now.look.now) c.args.query.now.sorts.now
    (g.W.Wanted.wants c.args.query.now.wanted.now) c.args.partial.now c.objects-objects.result in
    adds_none P c.args.rows.now.items (λ x a. let no : IsTrue false = c.if-not-is_answer.ensures.1
    (subst P (sym (only x c.requires.query.narrow c.requires.fixed c.objects-objects.ensures a)) a) in absurd (cc (no)))

pub returns-then-len-query-clause-fault : goal.returns-then-len-query-clause-fault
returns-then-len-query-clause-fault g c =
    let sorts = c.args.query.now.sorts.now in
    let P =
    IsAnswer (g.L.Look.known c.args.query.now.look.now) sorts (g.W.Wanted.wants c.args.query.now.wanted.now) c.args.partial.now [] in
    exceeds_one c.args.query.now.most P c.args.rows.now.items (take (length sorts) c.objects-objects.result)
    (c.if-not-is_answer.ensures.0 refl) (sym c.args.rows.now.ok.0 ∙ sym c.len.ensures ∙ c.if-len-query.true)

pub returns-clause-found : goal.returns-clause-found
returns-clause-found g c =
    let known = g.L.Look.known c.args.query.now.look.now in
    let sorts = c.args.query.now.sorts.now in
    let wants = g.W.Wanted.wants c.args.query.now.wanted.now in
    let partial = c.args.partial.now in
    let P = IsAnswer known sorts wants partial [] in
    let tuple = take (length sorts) c.objects-objects.result in
    let old = c.args.rows.now.items in
    let is : c.push.new.self.items ≡ old ++ tuple ∷ [] = c.in_ok-push.ensures.items ∙ ap (λ x. old ++ x ∷ []) c.in_ok-new.ensures.objects in
    subst (Adds P old) (sym is) (adds_one P old tuple (c.if-not-is_answer.ensures.0 refl)
    (λ x a. only_answer known sorts wants partial c.objects-objects.result x c.requires.query.narrow c.requires.fixed
    c.objects-objects.ensures a))
