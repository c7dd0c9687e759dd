-- Of words and told files one outcome is right.
use Rattle.std.proofs.Common.{◌≡◌, ◌⊎◌, inl, inr, ℕ, List, refl, sym, ap, subst, ◌∙◌, Option, None, Some}
use Rattle.std.proofs.lemmas.Option.{same_Some}
use Rattle.io_world.specs.FileMap.{FileMap}
use Rattle.validate_app.proofs.LawsLemmas.{judged_once}
use Rattle.validate_app.proofs.OneStopLemmas.{IsHalt, halt, judged_goes_on, one_halt}
use Rattle.validate_app.specs.Files.{TextsSeen}
use Rattle.validate_app.specs.Inputs.{StopsAtText}
use Rattle.validate_app.specs.Laws.{HasFailed, IsFailure, OutcomesAreUnique}
use Rattle.validate_app.specs.Outcomes.{IsJudgedPlan, IsOutcome}
use Rattle.validate_app.specs.Words.{ValidateWords, paths_of_words}
use Rattle.validate_app.specs.declared.outcome.Outcome.{Outcome}
use Rattle.validate_app.specs.declared.outcome.Outcome.TheVariants.{Judged, Stopped}
use Rattle.validate_app.specs.declared.stop.Stop.{Stop}
use Rattle.validate_app.specs.declared.stop.Stop.TheVariants as stop
use Rattle.validate_app.specs.declared.verdict.Verdict.{Verdict}

module _ (words : List (List ℕ)) (told : FileMap) (first last : ℕ) where
  abbrev files : TextsSeen
  files = record { told = Some told; first = first; last = last }

  -- how a run came to its end, where no memory is wanting and no file failed
  data Came (o : Outcome) : Type 0 where
    no_words : paths_of_words words ≡ None → o ≡ Stopped stop.Usage → Came o
    halted : (w : ValidateWords) (why : Stop) → paths_of_words words ≡ Some w → IsHalt told w why → o ≡ Stopped why
        → Came o
    judged : (w : ValidateWords) (v : Verdict) (claimed : Option ℕ) → paths_of_words words ≡ Some w
        → IsJudgedPlan (Some told) w v claimed → o ≡ Judged v claimed → Came o

  came_at : (w : ValidateWords) → paths_of_words words ≡ Some w → (why : Stop) → StopsAtText files w why
      → IsFailure why ⊎ Came (Stopped why)
  came_at w named why stops = elim (halt told w first last why stops) [
    | inl failed ↦ inl failed
    | inr h ↦ inr (halted w why named h refl)
  ]

  came : (o : Outcome) → IsOutcome words files o → HasFailed o ⊎ Came o
  came (Judged v claimed) (w, named, a) = inr (judged w v claimed named a refl)
  came (Stopped stop.Usage) none = inr (no_words none refl)
  came (Stopped (stop.Refused which kind place)) (w, named, s) = came_at w named (stop.Refused which kind place) s
  came (Stopped (stop.Flawed line flaw)) (w, named, s) = came_at w named (stop.Flawed line flaw) s
  came (Stopped (stop.Failed which)) s = inl (inr (which, refl))
  came (Stopped (stop.TooLong which)) (w, named, s) = came_at w named (stop.TooLong which) s
  came (Stopped stop.Memory) s = inl (inl refl)

  no_paths : (w : ValidateWords) → paths_of_words words ≡ None → paths_of_words words ≡ Some w → ⊥
  no_paths w none some = absurd (let both = sym none ∙ some in cc)

  one_words : (w x : ValidateWords) → paths_of_words words ≡ Some w → paths_of_words words ≡ Some x → x ≡ w
  one_words w x a b = same_Some x w (sym b ∙ a)

  came_once : (o p : Outcome) → Came o → Came p → o ≡ p
  came_once o p (no_words a is) (no_words b so) = is ∙ sym so
  came_once o p (no_words a is) (halted w why named h so) = absurd (no_paths w a named)
  came_once o p (no_words a is) (judged w v claimed named j so) = absurd (no_paths w a named)
  came_once o p (halted w why named h is) (no_words b so) = absurd (no_paths w b named)
  came_once o p (halted w why named h is) (halted x than also k so) =
      let same = subst (λ y. IsHalt told y than) (one_words w x named also) k in
      is ∙ ap Stopped (one_halt told w why than h same) ∙ sym so
  came_once o p (halted w why named h is) (judged x v claimed also j so) =
      let same = subst (λ y. IsJudgedPlan (Some told) y v claimed) (one_words w x named also) j in
      absurd (judged_goes_on told w v claimed why same h)
  came_once o p (judged w v claimed named j is) (no_words b so) = absurd (no_paths w b named)
  came_once o p (judged w v claimed named j is) (halted x why also h so) =
      let same = subst (λ y. IsHalt told y why) (one_words w x named also) h in
      absurd (judged_goes_on told w v claimed why j same)
  came_once o p (judged w v c named j is) (judged x u d also k so) =
      let same = subst (λ y. IsJudgedPlan (Some told) y u d) (one_words w x named also) k in
      let once = judged_once told w v u c d j same in
      let both : Judged v c ≡ Judged u d = λ i. Judged (once.0 i) (once.1 i) in is ∙ both ∙ sym so

pub one_outcome : OutcomesAreUnique
one_outcome words told first last o p a b = by (came words told first last o a) (came words told first last p b)
  where
    by : HasFailed o ⊎ Came words told first last o → HasFailed p ⊎ Came words told first last p
        → HasFailed o ⊎ (HasFailed p ⊎ (o ≡ p))
    by (inl failed) q = inl failed
    by (inr c) (inl failed) = inr (inl failed)
    by (inr c) (inr d) = inr (inr (came_once words told first last o p c d))
