-- Entries that lead somewhere: parts of them, and that they lead to one place.
use Rattle.std.proofs.Common.{◌≡◌, ℕ, zero, suc, ◌+◌, inl, inr, Bool, List, [], ◌∷◌, ◌++◌, length, take, refl, sym, ap, subst, ◌∙◌, arith, append_assoc}
use Rattle.std.proofs.lemmas.List.{append-nil}
use Rattle.lemmas.proofs.Numbers.{zero_suc}
use Rattle.task_model.proofs.StreamsLemmas.{due_once}
use Rattle.task_model.specs.declared.stream.Instance.{Instance}
use Rattle.task_model.specs.declared.task.Task.{Task}
use Rattle.transcript_model.specs.Legal.{asks_of}
use Rattle.transcript_model.specs.Rounds.{Limits, calls_left, requests}
use Rattle.transcript_model.specs.Transcript.{known_of, notes_of}
use Rattle.transcript_model.specs.Turns.{is_cut}
use Rattle.transcript_model.specs.declared.entry.Entry.{Entry}
use Rattle.transcript_model.proofs.RoundsFrontLemmas.{one_front}
use Rattle.course_check.specs.Courses.{Course, Opens, IsBehind, IsCourseStep, Leads, with_asks}

-- ---- what is due

-- ---- one place

module _ (limits : Limits) (task : Task) (before : List Entry) where
  opens_once : (list again : List Instance) (cut also : Bool) (c d : Course) → list ≡ again
      → cut ≡ also
      → Opens limits task before list cut c → Opens limits task before again also d → c ≡ d
  opens_once list again cut also c d lists cuts first second =
      let one = one_front limits.pools first.round first.rest second.round second.rest
      (sym first.parts ∙ lists ∙ second.parts) first.fit second.fit first.full second.full in
      first.is
      ∙ (λ k. record {
        asks = requests task before (one.0 k);
        next = asks_of before + 1;
        answers = length (one.0 k);
        later = one.1 k;
        is_cut = cuts k;
      })
      ∙ sym second.is

pub nothing_left : (e : Entry) (es : List Entry) → [] ≡ e ∷ es → ⊥
nothing_left e es h = absurd (cc)

module _ (limits : Limits) (task : Task) (before : List Entry) (c : Course) (e : Entry) (d f : Course) where
  behind_once : (left also : ℕ) → left ≡ also → IsBehind limits task (before ++ e ∷ []) c left d
      → IsBehind limits task (before ++ e ∷ []) c also f → d ≡ f
  behind_once zero zero same first second =
      opens_once limits task (before ++ e ∷ []) c.later c.later c.is_cut c.is_cut d f refl refl first second
  behind_once zero (suc n) same first second = absurd (zero_suc n same)
  behind_once (suc n) zero same first second = absurd (zero_suc n (sym same))
  behind_once (suc n) (suc m) same first second =
      first ∙ (λ k. record { asks = []; next = c.next + 1; answers = same k; later = c.later; is_cut = c.is_cut }) ∙ sym second

  step_once : IsCourseStep limits task before c e d → IsCourseStep limits task before c e f → d ≡ f
  step_once (inl a) (inl b) =
      let lists = due_once task (known_of task before) (notes_of task before) a.may.list b.may.list a.may.due b.may.due in
      opens_once limits task (before ++ e ∷ []) (take (calls_left limits before) a.may.list)
      (take (calls_left limits before) b.may.list) (is_cut limits before a.may.list) (is_cut limits before b.may.list) d f
      (ap (take (calls_left limits before)) lists) (ap (λ (is : List Instance). is_cut limits before is) lists) a.opens b.opens
  step_once (inl a) (inr (inl b)) = absurd (omega (arith, a.resting, b.more))
  step_once (inl a) (inr (inr b)) = absurd (zero_suc b.left (sym a.resting ∙ b.answers))
  step_once (inr (inl a)) (inl b) = absurd (omega (arith, b.resting, a.more))
  step_once (inr (inl a)) (inr (inl b)) =
      let rests : a.rest ≡ b.rest = let both : e ∷ a.rest ≡ e ∷ b.rest = sym a.asks ∙ b.asks in cc in
      a.is ∙ ap (with_asks c) rests ∙ sym b.is
  step_once (inr (inl a)) (inr (inr b)) = absurd (nothing_left e a.rest (sym b.asked ∙ a.asks))
  step_once (inr (inr a)) (inl b) = absurd (zero_suc a.left (sym b.resting ∙ a.answers))
  step_once (inr (inr a)) (inr (inl b)) = absurd (nothing_left e b.rest (sym a.asked ∙ b.asks))
  step_once (inr (inr a)) (inr (inr b)) =
      behind_once a.left b.left (let both : suc a.left ≡ suc b.left = sym a.answers ∙ b.answers in omega (arith, both)) a.behind b.behind

pub leads_once : (limits : Limits) (task : Task) (c : Course) (before es : List Entry) (d f : Course)
    → Leads limits task c before es d
    → Leads limits task c before es f → d ≡ f
leads_once limits task c before [] d f first second = sym first ∙ second
leads_once limits task c before (e ∷ es) d f (m, step, rest) (n, also, more) =
    let same : m ≡ n = step_once limits task before c e m n step also in
    leads_once limits task n (before ++ e ∷ []) es d f (subst (λ x. Leads limits task x (before ++ e ∷ []) es d) same rest) more

-- ---- parts

pub leads_then : (limits : Limits) (task : Task) (c : Course) (before first rest : List Entry) (d f : Course)
    → Leads limits task c before first d → Leads limits task d (before ++ first) rest f → Leads limits task c before (first ++ rest) f
leads_then limits task c before [] rest d f here there =
    subst (λ x. Leads limits task x before rest f) (sym here) (subst (λ es. Leads limits task d es rest f) (append-nil before) there)
leads_then limits task c before (e ∷ es) rest d f (m, step, more) there = (
  m,
  step,
  leads_then limits task m (before ++ e ∷ []) es rest d f more
      (subst (λ xs. Leads limits task d xs rest f) (sym (append_assoc before (e ∷ []) es)) there),
)

pub leads_apart : (limits : Limits) (task : Task) (c : Course) (before first rest : List Entry) (f : Course)
    → Leads limits task c before (first ++ rest) f
    → (d : Course) × Leads limits task c before first d × Leads limits task d (before ++ first) rest f
leads_apart limits task c before [] rest f all =
    (c, refl, subst (λ es. Leads limits task c es rest f) (sym (append-nil before)) all)
leads_apart limits task c before (e ∷ es) rest f (m, step, more) =
    let r = leads_apart limits task m (before ++ e ∷ []) es rest f more in
    (r.0, (m, step, r.1), subst (λ xs. Leads limits task r.0 xs rest f) (append_assoc before (e ∷ []) es) r.2)
