-- A run whose answers are a table's is as the plain run.
use Rattle.std.proofs.Common.{◌≡◌, ◌+◌, ◌<◌, ◌≤◌, Bool, true, false, Contains, List, [], ◌∷◌, ◌++◌, length, take, Some, slice_get, refl, sym, ap, subst, ◌∙◌, arith, append_assoc, inl, inr}
use Rattle.std.proofs.lemmas.Bool.{ltb-true, ltb-false}
use Rattle.std.proofs.lemmas.List.{append-nil}
use Rattle.std.proofs.lemmas.List.Elements.{Contains-append_left, Contains-append_right, filter-append}
use Rattle.lemmas.proofs.Members.{get_behind, take_append}
use Rattle.turn_laws.specs.Lazy.{IsTurnNeeded, begins}
use Rattle.turn_laws.proofs.PlainBatchLemmas.{levels_more}
use Rattle.turn_laws.proofs.PlainLevelLemmas.{level_says}
use Rattle.turn_laws.proofs.PlainSaidLemmas.{knows_same}
use Rattle.turn_laws.specs.Answered.{IsAnsweredRun}
use Rattle.turn_laws.specs.PlainLaws.{KnowsSame}
use Rattle.task_model.proofs.StreamsLemmas.{due_once}
use Rattle.task_model.specs.Fit.{IsFit}
use Rattle.task_model.specs.Known.{Known}
use Rattle.task_model.specs.Plans.{IsSolvable}
use Rattle.task_model.specs.Streams.{AreDue, MoreAreDue, Note, NothingIsDue}
use Rattle.task_model.specs.declared.limits.TheConstants.{MOST_DUE}
use Rattle.task_model.specs.declared.stream.Instance.{Instance}
use Rattle.task_model.specs.declared.task.Task.{Task}
use Rattle.transcript_model.proofs.LegalPrefixLemmas.{legal_front}
use Rattle.transcript_model.specs.Legal.{IsLegal, asks_of, is_answer, is_ask}
use Rattle.transcript_model.specs.Outcomes.{IsTrueOutcome}
use Rattle.transcript_model.specs.Plain.{GoesOn, IsAsPlain, IsPlainRun, PlainEnd, SaysSame, closed, cut, end_of, level, level_of, solved, spent, too_many}
use Rattle.transcript_model.specs.Plain as plain
use Rattle.transcript_model.specs.Rounds.{Limits, calls_left}
use Rattle.transcript_model.specs.Tables.{Answers}
use Rattle.transcript_model.specs.Transcript.{known_of, notes_of}
use Rattle.transcript_model.specs.Turns.{AreTurns, IncrementalTurn, IsLevel, MayBegin, Stage, after_cut, between, cut_off, inside, none_left, stopped, whole}
use Rattle.transcript_model.specs.declared.entry.Entry.{Entry}
use Rattle.transcript_model.specs.declared.entry.Entry.TheVariants as entry
use Rattle.transcript_model.specs.declared.outcome.LimitKind.TheVariants as limit
use Rattle.transcript_model.specs.declared.outcome.Outcome.{Outcome}
use Rattle.transcript_model.specs.declared.outcome.Outcome.TheVariants as outcome

said_more : (xs ys before twin : List Entry) → SaysSame before twin → SaysSame xs ys → SaysSame (before ++ xs) (twin ++ ys)
said_more xs ys before twin first second = record {
  asks = filter-append is_ask before xs ∙ (λ k. first.asks k ++ second.asks k) ∙ sym (filter-append is_ask twin ys);
  answers = filter-append is_answer before xs ∙ (λ k. first.answers k ++ second.answers k) ∙ sym (filter-append is_answer twin ys);
  levels = omega (arith, levels_more before xs, levels_more twin ys, first.levels, second.levels);
}

module _ (limits : Limits) (task : Task) (fit : IsFit task) (answers : Answers) (entries : List Entry) (stage : Stage) (o : Outcome)
    (run : IsAnsweredRun limits task answers entries stage o) (known_end : ¬ (o ≡ outcome.Limit limit.States)) where
  -- what is left of a plain run behind `twin`, and says what `es` says
  record IsRest (twin es : List Entry) : Type 0 where
    plain : List Entry
    end : PlainEnd
    goes : IsPlainRun task answers limits.calls twin plain end
    same : SaysSame es plain
    ends : end_of o ≡ Some end

  nothing_said : SaysSame [] []
  nothing_said = record { asks = refl; answers = refl; levels = refl }

  -- in incremental mode a turn is needed only where no plan exists
  not_solvable : (before : List Entry) → IsTurnNeeded limits task before → ¬ (IsSolvable task (known_of task before))
  not_solvable before (inl not) = not
  not_solvable before (inr both) = absurd (both.0 run.mode)

  -- ---- ends between turns

  module _ (twin : List Entry) (said : SaysSame entries twin) (at : stage ≡ between) where
    knows : KnowsSame task entries twin
    knows = knows_same task entries twin said.asks said.answers

    same_due : (P : Known → List Note → Type 0) → P (known_of task entries) (notes_of task entries)
        → P (known_of task twin) (notes_of task twin)
    same_due P here = subst (λ k. P k (notes_of task twin)) knows.known (subst (P (known_of task entries)) knows.notes here)

    unsolvable : ¬ (IsSolvable task (known_of task entries)) → ¬ (IsSolvable task (known_of task twin))
    unsolvable not can = not (subst (IsSolvable task) (sym knows.known) can)

    ended : (p : Outcome) → o ≡ p → IsRest twin []
    ended (outcome.Plan steps cost from) is =
        let claim = subst (IsTrueOutcome limits task entries) is run.claim in
        let can : IsSolvable task (known_of task entries) = (claim.steps, cost, claim.valid) in
        record {
          plain = [];
          end = plain.plan;
          goes = solved (subst (IsSolvable task) knows.known can);
          same = nothing_said;
          ends = ap end_of is;
        }
    ended outcome.NoPlan is =
        let claim = subst (IsTrueOutcome limits task entries) is run.claim in
        record {
          plain = [];
          end = plain.no_plan;
          goes = closed (unsolvable claim.unsolvable) (same_due (NothingIsDue task) claim.closed.finished);
          same = nothing_said;
          ends = ap end_of is;
        }
    ended (outcome.Limit limit.Instances) is =
        let claim = subst (IsTrueOutcome limits task entries) is run.claim in
        record {
          plain = [];
          end = plain.limit_instances;
          goes = too_many (unsolvable (not_solvable entries (run.end (inl is)))) (same_due (MoreAreDue MOST_DUE task) claim);
          same = nothing_said;
          ends = ap end_of is;
        }
    ended (outcome.Limit limit.States) is = absurd (known_end is)
    ended (outcome.Limit limit.Calls) is =
        let claim = subst (IsTrueOutcome limits task entries) is run.claim in
        let few = run.few is at in
        let some : 0 < length few.0 = within few.0 claim.instance ((few.1.each claim.instance).1 claim.due) in
        record {
          plain = [];
          end = plain.limit_calls;
          goes = spent few.0 (record {
            unsolvable = unsolvable (not_solvable entries (run.end (inr (is, at))));
            due = same_due (λ k ns. AreDue task k ns few.0) few.1;
            some = some;
            few = few.2;
          }) (omega (arith, claim.calls, knows.asks));
          same = nothing_said;
          ends = ap end_of is;
        }
      where
        within : (xs : List Instance) (i : Instance) → Contains xs i → 0 < length xs
        within [] i c = absurd (omega (arith, c.1))
        within (x ∷ xs) i c = omega arith

  -- ---- levels

  -- a level that begins behind these entries
  goes_on : (before twin now rest : List Entry) (b : Bool) → before ++ (now ++ rest) ≡ entries → SaysSame before twin
      → MayBegin limits task before → (this : IsLevel limits task before now b) → GoesOn task twin this.list
  goes_on before twin now rest b is said may this =
      let knows = knows_same task before twin said.asks said.answers in
      let more = this.rest ++ rest in
      let whole : entries ≡ before ++ entry.Level ∷ more = sym is ∙ ap (λ es. before ++ (es ++ rest)) this.is in
      let there : slice_get entries (length before) ≡ Some entry.Level =
      ap (λ es. slice_get es (length before)) whole
      ∙ ap (slice_get (before ++ entry.Level ∷ more)) (let n : length before ≡ length before + 0 = omega arith in n)
      ∙ get_behind before (entry.Level ∷ more) 0 entry.Level refl in
      let front : take (length before) entries ≡ before = ap (take (length before)) whole ∙ take_append before (entry.Level ∷ more) in
      let begun : begins limits.mode entry.Level ≡ true = ap (λ m. begins m entry.Level) run.mode in
      let needed = subst (IsTurnNeeded limits task) front (run.lazy (length before) entry.Level there begun) in
      let lists : may.list ≡ this.list =
      due_once task (known_of task before) (notes_of task before) may.list this.list may.due this.due in
      record {
        unsolvable = λ can. not_solvable before needed (subst (IsSolvable task) (sym knows.known) can);
        due = subst (λ k. AreDue task k (notes_of task twin) this.list) knows.known
            (subst (λ ns. AreDue task (known_of task before) ns this.list) knows.notes this.due);
        some = omega (arith, may.some, ap length lists);
        few = omega (arith, may.few, ap length lists);
      }

  says : (before twin now rest : List Entry) (b : Bool) → before ++ (now ++ rest) ≡ entries → SaysSame before twin
      → (this : IsLevel limits task before now b) → SaysSame now (level_of task answers limits.calls twin this.list)
  says before twin now rest b is said this =
      let whole : entries ≡ (before ++ now) ++ rest = sym is ∙ sym (append_assoc before now rest) in
      level_says limits task fit answers before twin now entries b said this
      (legal_front limits.version task (before ++ now) rest (subst (IsLegal limits.version task) whole run.agrees.legal)) run.agrees.by
      (λ e m. subst (λ es. Contains es e) (sym whole)
      (Contains-append_left (before ++ now) rest e (Contains-append_right before now e m)))

  asked_alike : (before twin : List Entry) → SaysSame before twin → asks_of before ≡ asks_of twin
  asked_alike before twin said = (knows_same task before twin said.asks said.answers).asks

  turns_rest : (before twin es : List Entry) (s : Stage) → s ≡ stage → before ++ es ≡ entries → SaysSame before twin
      → AreTurns limits task (IncrementalTurn limits task) tt before es s → IsRest twin es
  turns_rest before twin es s at is said none_left =
      ended twin (subst (λ xs. SaysSame xs twin) (sym (append-nil before) ∙ is) said) (sym at) o refl
  turns_rest before twin es s at is said (whole next {now = now} {rest = rest} may this more) =
      let lvl = level_of task answers limits.calls twin this.list in
      let here = says before twin now rest false is said this in
      let behind =
      turns_rest (before ++ now) (twin ++ lvl) rest s at
      (append_assoc before now rest ∙ is) (said_more now lvl before twin said here) more in
      let room : length this.list ≤ calls_left limits before =
      ltb-false (calls_left limits before) (length this.list) (sym this.cut_is) in
      record {
        plain = lvl ++ behind.plain;
        end = behind.end;
        goes = level this.list (goes_on before twin now rest false is said may this)
            (omega (arith, room, asked_alike before twin said, may.left)) behind.goes;
        same = said_more rest behind.plain now lvl here behind.same;
        ends = behind.ends;
      }
  turns_rest before twin es s at is said (cut_off next may this) =
      let all : before ++ (es ++ []) ≡ entries = ap (λ xs. before ++ xs) (append-nil es) ∙ is in
      let wants : calls_left limits before < length this.list =
      ltb-true (calls_left limits before) (length this.list) (sym this.cut_is) in
      let calls : o ≡ outcome.Limit limit.Calls =
      elim run.stands [ inl b ↦ absurd (let no : after_cut ≡ between = at ∙ b in cc) | inr both ↦ both.1 ] in
      record {
        plain = level_of task answers limits.calls twin this.list;
        end = plain.limit_calls;
        goes = cut this.list (goes_on before twin es [] true all said may this) (omega (arith, asked_alike before twin said, may.left))
            (omega (arith, wants, asked_alike before twin said, may.left));
        same = says before twin es [] true all said this;
        ends = ap end_of calls;
      }
  turns_rest before twin es s at is said (stopped next more b may this) =
      absurd (elim run.stands [
        | inl b ↦ let no : inside ≡ between = at ∙ b in cc
        | inr both ↦ let no : inside ≡ after_cut = at ∙ both.0 in cc
      ])

  pub as_plain : IsAsPlain task answers limits.calls entries o
  as_plain =
      let rest = turns_rest [] [] entries stage refl refl nothing_said run.turns in
      record {
        plain = rest.plain;
        end = rest.end;
        run = rest.goes;
        same = rest.same;
        known = (knows_same task entries rest.plain rest.same.asks rest.same.answers).known;
        ends = rest.ends;
      }
