use Rattle.std.proofs.Common.{◌≡◌, ◌+◌, ◌∙◌, Some, arith, length, slice_get, Contains, sym, ap, subst}
use Rattle.lemmas.proofs.Members.{get_append}
use Rattle.name_tables.proofs.NamesLemmas.{place_within}
use Rattle.dream_check.proofs.TableLemmas.{found_behind, in_neither}
use Rattle.dream_check.proofs.table.TableNamed.object_named.Goals as goal

pub returns-in-Some-clause-found : goal.returns-in-Some-clause-found
returns-in-Some-clause-found c =
    subst (λ ns. slice_get ns c.in-Some.object ≡ Some c.args.name.now) c.self.view_is
    (get_append c.self.inside.facts.now.known.names c.self.inside.placeholders c.in-Some.object c.args.name.now c.in-Some.ensures.found)

pub overflow_add-name_count : goal.overflow_add-name_count
overflow_add-name_count c =
    let within = place_within c.args.name.now c.self.inside.placeholders c.in_ok-place.place (sym c.in_ok-place.ensures) in
    omega (arith, within, c.self.invariant, c.name_count.ensures.few)

pub returns-in_err-place-clause-none : goal.returns-in_err-place-clause-none
returns-in_err-place-clause-none c =
    rw c.from_residual.ensures (subst (λ ns. ¬ (Contains ns c.args.name.now)) c.self.view_is
    (in_neither c.self.inside.facts.now.known.names c.self.inside.placeholders c.args.name.now c.in_default.ensures.none
    (sym c.in_err-place.ensures)))

pub returns-clause-found : goal.returns-clause-found
returns-clause-found c =
    let names = c.self.inside.facts.now.known.names in
    let more = c.self.inside.placeholders in
    ap (slice_get c.args.self.now) (c.new.ensures ∙ ap (λ n. n + c.in_ok-place.place) c.name_count.ensures.count)
    ∙ subst (λ ns. slice_get ns (length names + c.in_ok-place.place) ≡ Some c.args.name.now) c.self.view_is
    (found_behind names more c.args.name.now c.in_ok-place.place (sym c.in_ok-place.ensures))
