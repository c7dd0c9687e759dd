use Rattle.std.proofs.Common.{◌≡◌, ◌≤◌, ◌+◌, ℕ, ◌∙◌, ◌++◌, ◌∷◌, ◌==◌, [], sym, ap, refl, arith, rules, tests, drop, length, take_all, false, append_assoc, Some, None, List}
use Rattle.std.proofs.lemmas.List.{append-nil, drop_all}
use Rattle.std.specs.List.{filter_map, list_any}
use Rattle.std.proofs.lemmas.Iterator.{YieldsList-from_slice}
use Rattle.std.proofs.lemmas.Iterator.Search.{any_from_yields_List}
use Rattle.transcript_model.specs.Names.{stream_named}
use Rattle.replay_check.proofs.HeadsServeLemmas.{no_stream, stream_again, stream_more, streams_more}
use Rattle.replay_check.specs.Heads.{are_new}
use Rattle.replay_check.proofs.head.streams_of.Goals as goal
use Rattle.replay_check.proofs.head.streams_of.Goals.{After-any}

module _ (c : After-any) where
  was_before : c.any.result ≡ list_any (λ s. s == c.in-Some.stream) c.loop-name.served.items
  was_before =
      any_from_yields_List (λ s. s == c.in-Some.stream) _ _ c.any.result c.any.ensures.ran
      (YieldsList-from_slice c.deref.result.now c.iter.ensures.rest) (λ x b q k. search (rules, tests))
      ∙ ap (list_any (λ s. s == c.in-Some.stream)) c.deref.ensures.value

  named : stream_named c.args.task.now c.name-item.result ≡ Some c.in-Some.stream
  named =
      ap (stream_named c.args.task.now) (sym c.bytes.ensures) ∙ sym c.stream_named.ensures
      ∙ c.in-Some.is

pub loop-name-init : goal.loop-name-init
loop-name-init c =
    record {
      streams = c.new-streams.ensures.items;
      served = sym (ap (λ (s : List ℕ). c.args.served.now.items ++ s) c.new-streams.ensures.items ∙ append-nil c.args.served.now.items);
      rest = refl;
    }

pub returns-in_default-clause-none : goal.returns-in_default-clause-none
returns-in_default-clause-none c =
    let none : c.stream_named.result ≡ None = c.in_default.is in
    c.loop-name.invariant.rest
    ∙ no_stream c.args.task.now c.loop-name.served.items c.args.names.now c.loop-name.name-index c.name-item.result
    c.loop-name-test.true c.name-item.is
    (ap (stream_named c.args.task.now) (sym c.bytes.ensures) ∙ sym c.stream_named.ensures ∙ none)

pub returns-then-any-clause-none : goal.returns-then-any-clause-none
returns-then-any-clause-none c =
    let a = (goal.at.returns-then-any-clause-none c).After-any in
    c.loop-name.invariant.rest
    ∙ stream_again c.args.task.now c.loop-name.served.items c.args.names.now c.loop-name.name-index c.in-Some.stream c.name-item.result
    c.loop-name-test.true c.name-item.is (named a) (sym (was_before a) ∙ c.if-any.true)

pub loop-name-preserved : goal.loop-name-preserved
loop-name-preserved c =
    let a = (goal.at.loop-name-preserved c).After-any in
    let s = c.in-Some.stream in
    let task = c.args.task.now in
    let names = c.args.names.now in
    let n = c.loop-name.name-index in
    let old = c.args.served.now.items in
    let was = c.loop-name.served.items in
    let so_far = c.loop-name.streams.items in
    let new : list_any (λ x. x == s) was ≡ false = sym (was_before a) ∙ c.if-any.false in
    record {
      streams =
          c.in_ok-push-2.ensures.items ∙ ap (λ xs. xs ++ s ∷ []) c.loop-name.invariant.streams
          ∙ sym (streams_more task names n s c.name-item.result c.loop-name-test.true c.name-item.is (named a));
      served =
          c.in_ok-push.ensures.items ∙ ap (λ xs. xs ++ s ∷ []) c.loop-name.invariant.served ∙ append_assoc old so_far (s ∷ [])
          ∙ ap (λ xs. old ++ xs) (sym c.in_ok-push-2.ensures.items);
      rest =
          c.loop-name.invariant.rest ∙ stream_more task was names n s c.name-item.result c.loop-name-test.true c.name-item.is (named a) new
          ∙ ap (λ xs. are_new task xs (drop (n + 1) names)) (sym c.in_ok-push.ensures.items);
    }

pub returns-clause-some : goal.returns-clause-some
returns-clause-some c =
    let n = c.loop-name.name-index in
    let names = c.args.names.now in
    let past : length names ≤ n = omega (arith, c.loop-name-test.false) in (
      c.loop-name.invariant.rest ∙ ap (are_new c.args.task.now c.loop-name.served.items) (drop_all n names past),
      c.loop-name.invariant.streams ∙ ap (filter_map (stream_named c.args.task.now)) (take_all n names past),
      c.loop-name.invariant.served,
    )
