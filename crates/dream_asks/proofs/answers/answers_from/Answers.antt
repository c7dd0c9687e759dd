use Rattle.std.proofs.Common.{rules, ◌≡◌, ◌-◌, arith, position, Some, None, drop, length, length-drop, take, subst, sym}
use Rattle.std.proofs.lemmas.List.{take_all}
use Rattle.dream_asks.proofs.FromLemmas.{from_none, from_place}
use Rattle.dream_asks.proofs.answers.answers_from.Goals as goal
use Rattle.dream_asks.specs.Noting.{HaveSameAnswers, is_answer_from}

pub returns-in-Some : goal.returns-in-Some
returns-in-Some c =
    let entries = c.args.entries.now in
    let place = c.in-Some.place in
    let there : position (is_answer_from c.args.number) entries ≡ Some place = search rules in
    let rest = drop place entries in
    let whole : take (length entries - place) rest ≡ rest =
    take_all (length entries - place) rest (omega (arith, length-drop place entries)) in
    subst (λ list. HaveSameAnswers c.args.number list entries) (sym whole) (from_place entries c.args.number place there)

pub returns-in-None : goal.returns-in-None
returns-in-None c =
    let none : position (is_answer_from c.args.number) c.args.entries.now ≡ None = search rules in
    from_none c.args.entries.now c.args.number none
