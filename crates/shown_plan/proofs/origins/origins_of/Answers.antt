use Rattle.std.proofs.Common.{◌≡◌, ◌∷◌, [], ◌++◌, ℕ, List, Bor, IfSome, map, rules, sym, subst, ap, ◌∙◌, All}
use Rattle.std.proofs.lemmas.List.Elements.{All-head, All-push, All-tail}
use Rattle.std.specs.Cmp.Lexicographic.{slice_cmp}
use Rattle.std.specs.Ordering.{nat_cmp}
use Rattle.lemmas.specs.Lists.{AreAscending}
use Rattle.transcript_model.specs.Outcomes.{IsOrigin}
use Rattle.transcript_model.specs.declared.outcome.Origin.{Origin}
use Rattle.shown_plan.proofs.SourcesOrderLemmas.{ascending}
use Rattle.shown_plan.proofs.SourcesYieldLemmas.{among_here, given_generated, has_source, objects_next, origin_is}
use Rattle.shown_plan.proofs.origins.origins_of.Goals as goal
use Rattle.shown_plan.proofs.origins.origins_of.Goals.{After-source_of}
use Rattle.shown_plan.specs.Sources.{IsBest, IsGivenValue, IsSource}

module _ (c : After-source_of) where
  objects : map (λ (o : Origin). o.object) c.loop-name.from.items
      ++ c.in-Some.name.now.now ∷ map (λ (n : Bor (List ℕ)). n.now) c.next.new.self
      ≡ map (λ (n : Bor (List ℕ)). n.now) c.args.names.now.keys
  objects = subst (λ (ks : List (Bor (List ℕ))).
      map (λ (o : Origin). o.object) c.loop-name.from.items ++ map (λ (n : Bor (List ℕ)). n.now) ks
      ≡ map (λ (n : Bor (List ℕ)). n.now) c.args.names.now.keys) c.in-Some.ensures.steps c.loop-name.invariant.objects

  left : All (IsGivenValue c.args.entries.now) (c.in-Some.name.now.now ∷ map (λ (n : Bor (List ℕ)). n.now) c.next.new.self)
  left = subst (λ (ks : List (Bor (List ℕ))). All (IsGivenValue c.args.entries.now) (map (λ (n : Bor (List ℕ)). n.now) ks))
      c.in-Some.ensures.steps c.loop-name.invariant.given

  given : IsGivenValue c.args.entries.now c.in-Some.name.now.now
  given = All-head (IsGivenValue c.args.entries.now) c.in-Some.name.now.now (map (λ (n : Bor (List ℕ)). n.now) c.next.new.self) left

  best : IsBest c.args.entries.now given.value c.source_of.result
  best =
      c.source_of.ensures c.args.entries.now given.value given.named
      (c.in_ok-sources.ensures given.value
      (among_here (map (λ (o : Origin). o.object) c.loop-name.from.items) c.in-Some.name.now.now
      (map (λ (n : Bor (List ℕ)). n.now) c.next.new.self) (map (λ (n : Bor (List ℕ)). n.now) c.args.names.now.keys) given.value
      given.named objects))

pub sources_of-requires-clause-names : goal.sources_of-requires-clause-names
sources_of-requires-clause-names c = λ k d lt. given_generated c.args.entries.now _ (c.requires.given k d lt)

pub source_of-requires : goal.source_of-requires
source_of-requires c =
    given_generated c.args.entries.now c.in-Some.name.now.now
    (All-head (IsGivenValue c.args.entries.now) c.in-Some.name.now.now (map (λ (n : Bor (List ℕ)). n.now) c.next.new.self)
    (subst (λ (ks : List (Bor (List ℕ))). All (IsGivenValue c.args.entries.now) (map (λ (n : Bor (List ℕ)). n.now) ks))
    c.in-Some.ensures.steps c.loop-name.invariant.given))

pub unreachable-requires : goal.unreachable-requires
unreachable-requires c =
    let g = given (goal.at.unreachable-requires c).After-source_of in
    has_source c.args.entries.now g.value g.number
    (subst (IsBest c.args.entries.now g.value) c.in_default.is (best (goal.at.unreachable-requires c).After-source_of)) g.there

pub loop-name-preserved : goal.loop-name-preserved
loop-name-preserved c =
    let at = (goal.at.loop-name-preserved c).After-source_of in
    let g = given at in
    let name = c.in-Some.name.now in
    let origin = c.in_ok-origin.origin in
    let e = c.in_ok-origin.ensures in
    let pushed : c.push.new.self.items ≡ c.loop-name.from.items ++ origin ∷ [] = search rules in
    let source = subst (λ o. IfSome o (IsSource c.args.entries.now g.value)) c.in-Some-source_of.is (best at).some in
    record {
      objects =
          ap (λ os. map (λ (o : Origin). o.object) os ++ map (λ (n : Bor (List ℕ)). n.now) c.next.new.self) pushed
          ∙ objects_next (λ (n : Bor (List ℕ)). n.now) c.loop-name.from.items origin name c.next.new.self
          (map (λ (n : Bor (List ℕ)). n.now) c.args.names.now.keys) e.object (objects at);
      given = All-tail (IsGivenValue c.args.entries.now) name.now (map (λ (n : Bor (List ℕ)). n.now) c.next.new.self) (left at);
      origins = subst (All (IsOrigin c.args.version c.args.entries.now)) (sym pushed)
          (All-push (IsOrigin c.args.version c.args.entries.now) c.loop-name.from.items origin c.loop-name.invariant.origins
          (origin_is c.args.version c.args.entries.now origin g.value c.in-Some-source_of.source
          (e.object ∙ g.named) e.number source e.one e.tuple));
    }

pub returns-clause-ascend : goal.returns-clause-ascend
returns-clause-ascend c =
    let objects : map (λ (o : Origin). o.object) c.from_vec.result ≡ map (λ (n : Bor (List ℕ)). n.now) c.args.names.now.keys =
    search rules in
    subst (AreAscending (slice_cmp nat_cmp)) (sym objects)
    (ascending (λ n. n.now) c.args.names.now.keys c.into_iter-name-iterator.ensures.into_iter_gives.4)
