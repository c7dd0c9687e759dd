use Rattle.std.proofs.Common.{◌+◌, ap, drop}
use Rattle.std.proofs.lemmas.List.{drop_all}
use Rattle.condition_text.specs.Texts.{term_text, terms_text}
use Rattle.condition_text.proofs.TextsLemmas.{all_put, one_put, terms_left}
use Rattle.condition_text.proofs.naming.Naming.put_terms.Goals as goal

pub loop-term-preserved : goal.loop-term-preserved
loop-term-preserved c =
    let names = c.args.self.now.names.now in
    let objects = c.args.self.now.objects.now in
    let terms = c.args.terms.now in
    let i = c.loop-term.term-index in
    one_put c.loop-term.text.items c.extend_from_slice.new.self.items c.put_term.new.text.items
    (term_text names objects c.term-item.result) (terms_text names objects (drop i terms))
    (terms_text names objects (drop (i + 1) terms)) _ c.loop-term.invariant
    (terms_left names objects terms i c.term-item.result c.loop-term-test.true c.term-item.is)
    c.in_ok-extend_from_slice.ensures.items c.in_ok-put_term.ensures

pub returns : goal.returns
returns c =
    all_put _ _ _ c.loop-term.invariant
    (ap (terms_text c.args.self.now.names.now c.args.self.now.objects.now)
    (drop_all c.loop-term.term-index c.args.terms.now c.loop-term-test.false))
