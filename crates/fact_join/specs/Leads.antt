-- The term of an atom by which its facts are gone through.
use Rattle.std.specs.Prelude.{◌≡◌, ℕ, List, length, Some, slice_get}
use Rattle.task_model.specs.Known.{Known, matches_of}
use Rattle.task_model.specs.Truth.{objects_at}
use Rattle.fact_join.specs.Partials.{Agrees}
use Rattle.fact_join.specs.declared.lead.Lead.{Lead}
use Rattle.fact_join.specs.declared.partial.Partial.{Partial}
use Rattle.fact_join.specs.declared.query.QueryAtom.{QueryAtom}

-- the atom has this object at this place in each tuple that agrees, and so many facts have it there
pub record IsLead (known : Known) (partial : Partial) (atom : QueryAtom) (lead : Lead) : Type 0 where
  pub fixed : (slots : List ℕ) → Agrees partial slots
      → slice_get (objects_at slots atom.terms.now) lead.place ≡ Some lead.object
  pub count : lead.count ≡ length (matches_of known.facts atom.pred lead.place lead.object)
