-- Batches that open, and the rounds that their entries run in.
use Rattle.std.proofs.Common.{◌≡◌, ◌+◌, Bool, true, List, [], ◌∷◌, ◌++◌, length, refl, arith, sym, ap, subst, ◌∙◌}
use Rattle.course_check.specs.Courses.{Course, Opens}
use Rattle.task_model.specs.declared.stream.Instance.{Instance}
use Rattle.task_model.specs.declared.task.Task.{Task}
use Rattle.transcript_model.proofs.LegalNumberLemmas.{asks_more}
use Rattle.transcript_model.proofs.RoundsFrontLemmas.{one_front}
use Rattle.transcript_model.specs.Legal.{asks_of, is_ask}
use Rattle.transcript_model.specs.Rounds.{AreRounds, AreRoundsRun, Limits, requests}
use Rattle.transcript_model.specs.declared.entry.Entry.{Entry}

-- the entries run the list in rounds
abbrev pub AreRun : Limits → Task → List Entry → List Instance → List Entry → Type 0
AreRun limits task before list es =
    (rounds : List (List Instance)) × AreRounds limits.pools list rounds × AreRoundsRun task before rounds es

-- ---- one opening

module _ (limits : Limits) (task : Task) (before : List Entry) (list again : List Instance) (cut also : Bool) where
  pub opens_at : (c : Course) → list ≡ again → cut ≡ also → Opens limits task before list cut c
      → Opens limits task before again also c
  opens_at c lists cuts o =
      subst (λ is. Opens limits task before is also c) lists (subst (λ b. Opens limits task before list b c) cuts o)

  pub opens_once : (c d : Course) → list ≡ again → cut ≡ also → Opens limits task before list cut c
      → Opens limits task before again also d → c ≡ d
  opens_once c d lists cuts first second =
      let one = one_front limits.pools first.round first.rest second.round second.rest
      (sym first.parts ∙ lists ∙ second.parts) first.fit second.fit first.full second.full in
      first.is
      ∙ (λ k. record {
        asks = requests task before (one.0 k);
        next = asks_of before + 1;
        answers = length (one.0 k);
        later = one.1 k;
        is_cut = cuts k;
      })
      ∙ sym second.is

-- a batch is cut where its list is
pub opened_cut : (limits : Limits) (task : Task) (before : List Entry) (list : List Instance) (cut : Bool) (c : Course)
    → Opens limits task before list cut c → c.is_cut ≡ cut
opened_cut limits task before list cut c o = ap (λ (d : Course). d.is_cut) o.is

-- a request is one more
pub asks_asked : (before : List Entry) (e : Entry) → is_ask e ≡ true → asks_of (before ++ e ∷ []) ≡ asks_of before + 1
asks_asked before e ask =
    let one : asks_of (e ∷ []) ≡ 1 = rw ask refl in omega (arith, asks_more before (e ∷ []), one)
