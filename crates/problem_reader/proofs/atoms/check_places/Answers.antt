use Rattle.std.proofs.Common.{ap, ◌∙◌}
use Rattle.sexpr_text.specs.Front.{shown}
use Rattle.problem_reader.proofs.AtomsLemmas.{word_checked, word_placed}
use Rattle.problem_reader.proofs.atoms.check_places.Goals as goal

pub terms-preserved-in-Word : goal.terms-preserved-in-Word
terms-preserved-in-Word c =
    let is = c.front_of.ensures ∙ ap shown c.in-Word.is in
    record {
      faults = c.terms.invariant.faults
          ∙ word_checked c.args.objects.now _ _ c.in-Word.text.now c.in-Word.place is c.place_of-known.result c.place_of-known.ensures
          c.terms.found c.unless-found.result c.is_some.result c.is_some.ensures c.unless-found.ensures;
      places = c.terms.invariant.places
          ∙ word_placed c.args.objects.now _ _ c.in-Word.text.now c.in-Word.place is c.place_of-known.result c.place_of-known.ensures
          c.terms.row c.push.new.self c.new.result (c.new.ensures ∙ c.in_ok-number-in-Word.ensures ∙ c.unwrap_or.ensures)
          c.in_ok-push-in-Word.ensures.ok;
    }
