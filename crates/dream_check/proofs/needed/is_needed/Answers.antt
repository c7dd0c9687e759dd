use Rattle.std.proofs.Common.{[], ◌∙◌, subst, sym}
use Rattle.dreaming.specs.Parts.{Portion}
use Rattle.dreaming.specs.Thinning.{IsPartAt}
use Rattle.dream_check.proofs.needed.is_needed.Goals as goal

pub is_needed_by-requires-clause-part : goal.is_needed_by-requires-clause-part
is_needed_by-requires-clause-part c =
    let l = c.args.listing.now in
    subst (λ (p : Portion). IsPartAt l.task.now l.supposed.now [] p)
    (sym (c.deref_mut.ensures.value ∙ c.in_ok-part.ensures.ok)) (record {
      part = c.new.ensures.part l.task.now c.requires.listing;
      base = c.new.ensures.base;
      list = c.new.ensures.list;
      places_are = c.new.ensures.places;
    })
