-- What is wrong with an entry.
use Rattle.std.proofs.Common.{◌≡◌, ℕ, ◌<◌, ◌≤◌, inl, inr, true, false, List, [], ◌∷◌, ◌++◌, length, refl, sym, ap, subst, ◌∙◌, arith}
use Rattle.std.proofs.lemmas.Bool.{false≢true, true≢false}
use Rattle.dream_check.specs.Lines.{IsFirstWrongLine, IsWrongLine}
use Rattle.turn_laws.specs.Modes.{Leaves}
use Rattle.task_model.specs.declared.task.Task.{Task}
use Rattle.transcript_model.specs.Dreaming.{HasNoDreamAfter}
use Rattle.transcript_model.specs.Legal.{MayFollow, is_answer, is_ask, is_mark}
use Rattle.transcript_model.specs.Rounds.{Limits}
use Rattle.transcript_model.specs.Turns.{Kept}
use Rattle.transcript_model.specs.declared.entry.Call.{Call}
use Rattle.transcript_model.specs.declared.entry.DreamUse.{DreamUse}
use Rattle.transcript_model.specs.declared.entry.Entry.{Entry}
use Rattle.transcript_model.specs.declared.entry.Entry.TheVariants as entry
use Rattle.replay_check.specs.Breaches.{AreBegun, BeginsTurn, BreaksEntry, IsOutOfOrder, MayAsk}
use Rattle.replay_check.specs.Kinds.{breach_number}
use Rattle.replay_check.specs.Lines.{Precedes}
use Rattle.replay_check.specs.Standings.{IsOpenEntry, IsWrong, NoLineEarlier}
use Rattle.replay_check.specs.Verdicts.{IsOpenNone}
use Rattle.replay_check.specs.declared.verdict.BreachKind.{BreachKind}
use Rattle.replay_check.specs.declared.verdict.BreachKind.TheVariants as kind

module _ (limit : ℕ) (limits : Limits) (task : Task) (before : List Entry) where
  -- nothing precedes what is wrong with the first line but what is so in a way of a smaller kind
  first_so : (e : Entry) (k : BreachKind)
      → ((than : BreachKind) → breach_number than < breach_number k → ¬ (BreaksEntry limits task before e 0 than))
      → NoLineEarlier limits task before e 0 k
  first_so e k each other than breaks (inl lt) = omega (arith, lt)
  first_so e k each other than breaks (inr (is, lt)) =
      each than lt (subst (λ n. BreaksEntry limits task before e n than) is breaks)

  -- ---- requests and answers

  pub wrong_ask : (e : Entry) → is_ask e ≡ true → ¬ (MayAsk limits task before e)
      → IsWrong limit limits task before e 0 kind.Ask
  wrong_ask e is bad =
      record {
        breaks = (refl, is, bad);
        first = first_so e kind.Ask each;
        decided = λ none unsure. absurd (true≢false (sym is ∙ ap is_ask none));
      }
    where
      each : (than : BreachKind) → breach_number than < breach_number kind.Ask → ¬ (BreaksEntry limits task before e 0 than)
      each kind.Text lt breaks = breaks
      each kind.Head lt breaks = breaks
      each kind.Ask lt breaks = omega (arith, lt)
      each kind.Answer lt breaks = omega (arith, lt)
      each kind.Order lt breaks = omega (arith, lt)
      each kind.Dream lt breaks = omega (arith, lt)
      each kind.Plan lt breaks = omega (arith, lt)
      each kind.Cost lt breaks = omega (arith, lt)
      each kind.From lt breaks = omega (arith, lt)
      each kind.Outcome lt breaks = omega (arith, lt)

  pub wrong_answer : (e : Entry) → is_answer e ≡ true → is_ask e ≡ false → ¬ (MayFollow limits.version task before e)
      → IsWrong limit limits task before e 0 kind.Answer
  wrong_answer e is no_ask bad =
      record {
        breaks = (refl, is, bad);
        first = first_so e kind.Answer each;
        decided = λ none unsure. absurd (true≢false (sym is ∙ ap is_answer none));
      }
    where
      each : (than : BreachKind) → breach_number than < breach_number kind.Answer → ¬ (BreaksEntry limits task before e 0 than)
      each kind.Text lt breaks = breaks
      each kind.Head lt breaks = breaks
      each kind.Ask lt breaks = true≢false (sym breaks.1 ∙ no_ask)
      each kind.Answer lt breaks = omega (arith, lt)
      each kind.Order lt breaks = omega (arith, lt)
      each kind.Dream lt breaks = omega (arith, lt)
      each kind.Plan lt breaks = omega (arith, lt)
      each kind.Cost lt breaks = omega (arith, lt)
      each kind.From lt breaks = omega (arith, lt)
      each kind.Outcome lt breaks = omega (arith, lt)

  -- ---- order

  pub wrong_order : (e : Entry) → (is_ask e ≡ true → MayAsk limits task before e)
      → (is_answer e ≡ true → MayFollow limits.version task before e)
      → IsOutOfOrder limits task before e → IsWrong limit limits task before e 0 kind.Order
  wrong_order e asks answers bad =
      record { breaks = (refl, bad); first = first_so e kind.Order each; decided = λ none unsure. inr (refl, omega arith) }
    where
      each : (than : BreachKind) → breach_number than < breach_number kind.Order → ¬ (BreaksEntry limits task before e 0 than)
      each kind.Text lt breaks = breaks
      each kind.Head lt breaks = breaks
      each kind.Ask lt breaks = breaks.2 (asks breaks.1)
      each kind.Answer lt breaks = breaks.2 (answers breaks.1)
      each kind.Order lt breaks = omega (arith, lt)
      each kind.Dream lt breaks = omega (arith, lt)
      each kind.Plan lt breaks = omega (arith, lt)
      each kind.Cost lt breaks = omega (arith, lt)
      each kind.From lt breaks = omega (arith, lt)
      each kind.Outcome lt breaks = omega (arith, lt)

  -- a mark is neither a request nor an answer
  pub mark_order : (e : Entry) → is_mark e ≡ true → IsOutOfOrder limits task before e
      → IsWrong limit limits task before e 0 kind.Order
  mark_order e mark bad =
      wrong_order e (λ is. absurd (ask_mark e mark is)) (λ is. absurd (answer_mark e mark is)) bad
    where
      ask_mark : (d : Entry) → is_mark d ≡ true → is_ask d ≡ true → ⊥
      ask_mark (entry.Ask n turn call) there is = absurd (cc)
      ask_mark (entry.Got n tuples values) there is = absurd (cc)
      ask_mark (entry.Value n value) there is = absurd (cc)
      ask_mark (entry.End n) there is = absurd (cc)
      ask_mark entry.Level there is = absurd (cc)
      ask_mark (entry.Dream uses steps) there is = absurd (cc)
      ask_mark entry.Nothing there is = absurd (cc)
      ask_mark entry.Reset there is = absurd (cc)
      ask_mark (entry.Pick n) there is = absurd (cc)
      ask_mark (entry.Retire n) there is = absurd (cc)

      answer_mark : (d : Entry) → is_mark d ≡ true → is_answer d ≡ true → ⊥
      answer_mark (entry.Got n tuples values) there is = absurd (cc)
      answer_mark (entry.Value n value) there is = absurd (cc)
      answer_mark (entry.End n) there is = absurd (cc)
      answer_mark (entry.Ask n turn call) there is = absurd (cc)
      answer_mark entry.Level there is = absurd (cc)
      answer_mark (entry.Dream uses steps) there is = absurd (cc)
      answer_mark entry.Nothing there is = absurd (cc)
      answer_mark entry.Reset there is = absurd (cc)
      answer_mark (entry.Pick n) there is = absurd (cc)
      answer_mark (entry.Retire n) there is = absurd (cc)

  -- a request or an answer is out of order where no turn goes on with it
  pub out_of_order : (e : Entry) → is_mark e ≡ false → ¬ (AreBegun limits task (before ++ e ∷ []))
      → IsOutOfOrder limits task before e
  out_of_order (entry.Ask n turn call) other bad = bad
  out_of_order (entry.Got n tuples values) other bad = bad
  out_of_order (entry.Value n value) other bad = bad
  out_of_order (entry.End n) other bad = bad
  out_of_order entry.Level other bad = bad
  out_of_order (entry.Dream uses steps) other bad = absurd (cc)
  out_of_order entry.Nothing other bad = absurd (cc)
  out_of_order entry.Reset other bad = bad
  out_of_order (entry.Pick n) other bad = bad
  out_of_order (entry.Retire n) other bad = bad

  -- ---- dreams

  module _ (begins : BeginsTurn limits task before) (kept : Kept) (left : Leaves limits task before kept)
      (alone : (k : Kept) → Leaves limits task before k → k ≡ kept) where
    pub wrong_dream : (uses : List DreamUse) (steps : List Call) (offset : ℕ) → 0 < length uses
        → IsFirstWrongLine limits task before kept.tried uses steps offset
        → IsWrong limit limits task before (entry.Dream uses steps) offset kind.Dream
    wrong_dream uses steps offset some wrong =
        record {
          breaks = (kept, left, wrong.0);
          first = first;
          decided = λ none unsure. absurd (cc);
        }
      where
        not_after : (other : ℕ) → offset ≤ other → Precedes other kind.Dream offset kind.Dream → ⊥
        not_after other le (inl lt) = omega (arith, le, lt)
        not_after other le (inr (is, lt)) = omega (arith, lt)

        first : NoLineEarlier limits task before (entry.Dream uses steps) offset kind.Dream
        first other kind.Ask breaks earlier = false≢true breaks.1
        first other kind.Answer breaks earlier = false≢true breaks.1
        first other kind.Order breaks earlier = breaks.1 (begins, some)
        first other kind.Dream (k, there, also) earlier =
            not_after other (wrong.1 other
            (subst (λ (x : Kept). IsWrongLine limits task before x.tried uses steps other) (alone k there) also)) earlier
        first other kind.Outcome breaks earlier = breaks.1
        first other kind.Text breaks earlier = breaks
        first other kind.Head breaks earlier = breaks
        first other kind.Plan breaks earlier = breaks
        first other kind.Cost breaks earlier = breaks
        first other kind.From breaks earlier = breaks

    -- ---- the want of a dream

    none_first : NoLineEarlier limits task before entry.Nothing 0 kind.Outcome
    none_first = first_so entry.Nothing kind.Outcome each
      where
        each : (than : BreachKind) → breach_number than < breach_number kind.Outcome
            → ¬ (BreaksEntry limits task before entry.Nothing 0 than)
        each kind.Ask lt breaks = false≢true breaks.1
        each kind.Answer lt breaks = false≢true breaks.1
        each kind.Order lt breaks = breaks.1 begins
        each kind.Dream lt breaks = breaks
        each kind.Outcome lt breaks = omega (arith, lt)
        each kind.Text lt breaks = breaks
        each kind.Head lt breaks = breaks
        each kind.Plan lt breaks = breaks
        each kind.Cost lt breaks = breaks
        each kind.From lt breaks = breaks

    pub wrong_none : ¬ (HasNoDreamAfter limits task before kept.tried) → ¬ (IsOpenNone limit limits task before)
        → IsWrong limit limits task before entry.Nothing 0 kind.Outcome
    wrong_none bad closed =
        record {
          breaks = (refl, (kept, left, bad));
          first = none_first;
          decided = λ none unsure. absurd (closed unsure);
        }

    pub open_none : IsOpenNone limit limits task before → IsOpenEntry limit limits task before entry.Nothing
    open_none unsure = record { is = refl; unsure = unsure; first = none_first }
