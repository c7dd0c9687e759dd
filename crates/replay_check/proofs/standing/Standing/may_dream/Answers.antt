use Rattle.std.proofs.Common.{◌≡◌, ◌∙◌, sym, true, rules, tests}
use Rattle.std.proofs.lemmas.Bool.{false≢true}
use Rattle.transcript_model.specs.Turns.{MayBegin}
use Rattle.transcript_model.specs.declared.head.Mode.TheVariants.{Incremental}
use Rattle.replay_check.proofs.DueLemmas.{begins_between, begins_turn, there_where}
use Rattle.replay_check.specs.Standings.{limits_by}
use Rattle.replay_check.specs.Turns.{AreDueFor}
use Rattle.replay_check.proofs.standing.Standing.may_dream.Goals.{then-eq-via-then-eq, then-eq-via-else-eq+then-not-is_between}
use Rattle.replay_check.proofs.standing.Standing.may_dream.Goals as goal

pub returns-then-eq : goal.returns-then-eq
returns-then-eq c = λ entries s. (
  λ yes. absurd (cc),
  λ begins.
      let b = c.args.bounds.now in
      let self = c.args.self.now in
      elim c.then-eq.branch [
        | then-eq-via-then-eq w ↦ let is : b.mode ≡ Incremental = search (rules, tests) in absurd (begins.0 is)
        | then-eq-via-else-eq+then-not-is_between w ↦
            absurd (false≢true (sym w.if-not-is_between.true ∙ w.is_between.ensures
            ∙ begins_between (limits_by b) b.task.now entries self.knowledge self.course s begins))
      ],
)

pub returns : goal.returns
returns c = λ entries s.
    let b = c.args.bounds.now in
    let limits = limits_by b in
    let task = b.task.now in
    let self = c.args.self.now in
    let dreams : ¬ (b.mode ≡ Incremental) = λ is.
    let yes : c.eq.result ≡ true = rw is at c.eq.ensures in false≢true (sym c.if-eq.false ∙ yes)
    in
    let same = there_where c.in_ok-dues.dues (λ dues. AreDueFor limits task entries dues.items) (MayBegin limits task entries)
    (c.in_ok-dues.ensures.some entries s) (c.in_ok-dues.ensures.none entries s) (λ dues due. due.0) in (
      λ yes.
          begins_turn limits task entries self.knowledge self.course s c.requires.bounds.workers dreams
          (sym c.is_between.ensures ∙ c.if-not-is_between.false) (same.0 (sym c.is_some.ensures ∙ yes)),
      λ begins. c.is_some.ensures ∙ same.1 begins.1,
    )
