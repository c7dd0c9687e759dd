use Rattle.std.proofs.Common.{◌≡◌, ◌∙◌, ◌+◌, ◌++◌, ◌∷◌, [], ap, refl, arith, length}
use Rattle.learning.proofs.KnowledgeLemmas.{ask_kept}
use Rattle.learning.proofs.knowledge.Knowledge.ask.Goals as goal

pub returns : goal.returns
returns c =
    let l = c.args.self.now in
    let number : c.len.result + 1 ≡ length l.asked.items + 1 = omega (arith, c.len.ensures, l.asked.ok) in
    record {
      kept = λ version turn task before call h right named.
          ask_kept version turn task before call l
          (record { facts = l.facts; queue = l.queue; asked = c.push-2.new.self; unanswered = c.push.new.self }) c.args.instance h right
          named refl refl
          c.in_ok-push-2.ensures.items (c.in_ok-push.ensures.items ∙ ap (λ n. l.unanswered.items ++ n ∷ []) number);
    }
