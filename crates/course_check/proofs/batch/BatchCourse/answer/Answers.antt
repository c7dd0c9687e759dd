use Rattle.std.proofs.Common.{◌≡◌, ◌∙◌, subst, ap, drop, ◌+◌, ◌-◌, List, arith, take}
use Rattle.instance_queue.specs.Level.{due_instances}
use Rattle.instance_queue.specs.declared.due.Due.{Due}
use Rattle.pools.specs.Pools.{IsLongestFront, shares_of}
use Rattle.course_check.proofs.BatchAgendasLemmas.{none_to_ask, next_round}
use Rattle.course_check.specs.BatchAgendas.{Agenda, Starts, shown_agenda, with_answer}
use Rattle.course_check.proofs.batch.BatchCourse.answer.Goals as goal

pub returns-then-self : goal.returns-then-self
returns-then-self c =
    let s = c.self.inside in
    let answers = ap (λ (a : Agenda). a.answers) c.self.view_is in
    record {
      more = λ some. absurd (omega (arith, c.if-self.true, answers, some));
      last = λ one.
          let pools = shares_of c.args.pools.now in
          let count = c.longest_front-count.result in
          let asked = none_to_ask s c.args.self.now c.self.invariant c.self.view_is c.requires.asked in
          let behind : c.split_at.result.1.now ≡ drop s.round s.dues.items =
          c.split_at.ensures.back ∙ ap (drop s.round) c.as_slice.ensures.value in
          let front : IsLongestFront pools (due_instances (drop s.round s.dues.items)) count =
          subst (λ (ds : List Due). IsLongestFront pools (due_instances ds) count) behind c.longest_front-count.ensures in
          subst (λ (a : Agenda).
          Starts pools a.later (a.next + 1) a.is_cut
          (shown_agenda (record {
            dues = s.dues;
            asked = s.asked;
            answered = s.answered + 1;
            round = s.round + count;
            before = s.before;
            is_cut = s.is_cut;
          }))) c.self.view_is
          (next_round pools s count c.self.invariant c.if-self.true asked front);
    }

pub returns-else-self : goal.returns-else-self
returns-else-self c =
    let s = c.self.inside in
    let answers = ap (λ (a : Agenda). a.answers) c.self.view_is in
    let next : s.before + (s.answered + 1) + 1 ≡ s.before + s.answered + 1 + 1 = omega arith in
    let left : s.round - (s.answered + 1) ≡ s.round - s.answered - 1 = omega arith in
    record {
      more = λ some.
          (λ i. record {
            to_ask = due_instances (drop s.asked (take s.round s.dues.items));
            next = next i;
            answers = left i;
            later = due_instances (drop s.round s.dues.items);
            is_cut = s.is_cut;
          })
          ∙ ap with_answer c.self.view_is;
      last = λ one. absurd (omega (arith, c.if-self.false, answers, one));
    }
