use Rattle.std.proofs.Common.{◌≡◌, [], ◌⊎◌, inl, inr, refl, List, ℕ, Bor, Some, None, true, map, sym, subst, All}
use Rattle.std.proofs.lemmas.List.Elements.{All-tail, All-head}
use Rattle.transcript_model.specs.Names.{generated}
use Rattle.shown_plan.proofs.SourcesTableLemmas.{sought_next}
use Rattle.shown_plan.proofs.sources.sought.Goals as goal
use Rattle.shown_plan.specs.Sources.{HasBest, found_in, is_among, is_generated}

pub value_of-requires : goal.value_of-requires
value_of-requires c =
    All-head (λ n. is_generated n ≡ true) c.in-Some.name.now.now (map (λ (n : Bor (List ℕ)). n.now) c.next.new.self)
    (subst (λ (ks : List (Bor (List ℕ))). All (λ n. is_generated n ≡ true) (map (λ (n : Bor (List ℕ)). n.now) ks))
    c.in-Some.ensures.steps c.loop-name.invariant.hashed)

pub loop-name-preserved : goal.loop-name-preserved
loop-name-preserved c =
    let name = c.in-Some.name.now.now in
    let rest = map (λ (n : Bor (List ℕ)). n.now) c.next.new.self in
    record {
      hashed = All-tail (λ n. is_generated n ≡ true) name rest
          (subst (λ (ks : List (Bor (List ℕ))). All (λ n. is_generated n ≡ true) (map (λ (n : Bor (List ℕ)). n.now) ks))
          c.in-Some.ensures.steps c.loop-name.invariant.hashed);
      each = λ value among.
          sought_next (λ (k : Bor (List ℕ)). k.now) c.loop-name.sources.entries c.insert.new.self.entries c.value_of.result name value rest
          c.value_of.ensures c.in_ok-insert.ensures.updates.1 c.in_ok-insert.ensures.updates.3
          (subst (λ (ks : List (Bor (List ℕ))).
          (found_in (λ (k : Bor (List ℕ)). k.now) c.loop-name.sources value ≡ Some None)
          ⊎ (is_among (map (λ (n : Bor (List ℕ)). n.now) ks) (generated value) ≡ true)) c.in-Some.ensures.steps
          (c.loop-name.invariant.each value among));
    }

pub returns : goal.returns
returns c = λ value among.
    let table = found_in (λ (k : Bor (List ℕ)). k.now) c.loop-name.sources value in
    elim (subst
    (λ (ks : List (Bor (List ℕ))). (table ≡ Some None) ⊎ (is_among (map (λ (n : Bor (List ℕ)). n.now) ks) (generated value) ≡ true))
    c.in-None.ensures.steps.0 (c.loop-name.invariant.each value among)) [
      | inl there ↦ subst (HasBest [] value) (sym there) (record { some = tt; none = λ n. refl })
      | inr none ↦ absurd (cc)
    ]
