use Rattle.std.proofs.Common.{◌≡◌, ◌+◌, ◌∷◌, ◌++◌, [], cond, Some, slice_get, ap, sym, ◌∙◌}
use Rattle.std.proofs.lemmas.Option.{slice_get-get_or}
use Rattle.fact_store.specs.Tables.{places_in, same_key}
use Rattle.fact_store.specs.declared.table.Table.{Table}
use Rattle.fact_store.proofs.TablesLemmas.{covers_one, covers_none}
use Rattle.fact_store.proofs.table.Table.cover_next.Goals as goal
use Rattle.fact_store.proofs.table.Table.cover_next.Goals.{in-Some+in-Ok+in-Ok-put, in_default}

pub returns-clause-covers : goal.returns-clause-covers
returns-clause-covers c =
    let fact = c.index-facts-self.result in
    let old = c.args.self.now in
    let at : slice_get c.args.facts.now old.done ≡ Some fact =
    slice_get-get_or c.args.facts.now old.done fact c.requires.more ∙ ap Some (sym c.index-facts-self.is) in
    let new : Table = record { lists = c.match-key_of.self.lists; done = c.match-key_of.self.done + 1 } in
    elim c.match-key_of.branch [
      | in-Some+in-Ok+in-Ok-put w ↦
          covers_one c.args.group c.args.facts.now old new fact c.requires.covers at w.in-Some.key
          (sym w.in-Some.ensures) (ap (λ (t : Table). t.done + 1) w.self-is)
          (λ q. ap (λ (t : Table). places_in t.lists q) w.self-is ∙ w.in-Ok-put.ensures.ok q
          ∙ ap (λ n. cond (same_key w.in-Some.key q) (places_in old.lists q ++ n ∷ []) (places_in old.lists q)) w.in-Ok.ensures.1)
      | in_default w ↦
          covers_none c.args.group c.args.facts.now old new fact c.requires.covers at
          (sym w.in_default.ensures) (ap (λ (t : Table). t.done + 1) w.self-is)
          (λ q. ap (λ (t : Table). places_in t.lists q) w.self-is)
    ]
