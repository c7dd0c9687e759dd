-- A line leads from a place to one place only, and from each place that is reached a report can be completed.
use Rattle.std.proofs.Common.{◌≡◌, ℕ, zero, suc, ◌+◌, ◌<◌, ◌⊎◌, inl, inr, arith, Bool, true, false, List, [], ◌∷◌, ◌++◌, refl, sym, subst, ap, ◌∙◌, codes, if◌then◌else◌}
use Rattle.std.proofs.lemmas.Fmt.{decimal_injective}
use Rattle.std.specs.List.{list_any}
use Rattle.std.specs.Str.{bytes_eq}
use Rattle.std.proofs.lemmas.List.Elements.{All-nil}
use Rattle.lemmas.proofs.Numbers.{small_version}
use Rattle.report_text.specs.Forms.{IsTerm, IsFormedCall}
use Rattle.report_text.specs.Places.{Place, first, limits, pools, entries, dream, plan, cost, origins, last, behind, dreaming, planning, dream_line, plan_line, cost_line, no_plan_line, limit_line, first_line, limits_line, is_dream, IsEntryLine, IsBodyStep, IsLineStep, IsPath}
use Rattle.report_text.specs.Texts.{Line, use_line, step_line, do_line, entry_lines, pool_line, done_line}
use Rattle.transcript_model.specs.declared.entry.Call.{Call}
use Rattle.transcript_model.specs.declared.entry.DreamUse.{DreamUse}
use Rattle.transcript_model.specs.declared.entry.Entry.{Entry}
use Rattle.transcript_model.specs.declared.entry.Entry.TheVariants as entry
use Rattle.transcript_model.specs.declared.head.Mode.TheVariants.{Incremental}

-- ---- kinds of lines

is_entry_word : List ℕ → Bool
is_entry_word word =
    list_any (bytes_eq word) (codes "level" ∷ codes "ask" ∷ codes "got" ∷ codes "value" ∷ codes "end" ∷ codes "none" ∷ codes "reset"
    ∷ codes "pick" ∷ codes "retire" ∷ [])

-- 0 for an entry of one line, 1 for a dream, 2 for a plan, 3 for a pool, and 4 for others
kind : Line → ℕ
kind l = if is_entry_word l.first then 0 else if bytes_eq l.first (codes "dream") then 1 else if bytes_eq l.first (codes "plan") then 2
    else if bytes_eq l.first (codes "pool") then 3 else 4

single_kind : (version : ℕ) (l : Line) → IsEntryLine version l → kind l ≡ 0
unfolding kind is_entry_word
single_kind version l s = by_entry s.entry s.single s.is
  where
    by_line : (m : Line) → m ∷ [] ≡ l ∷ [] → kind m ≡ 0 → kind l ≡ 0
    by_line m e k = let same : m ≡ l = cc in subst (λ x. kind x ≡ 0) same k

    by_entry : (e : Entry) → is_dream e ≡ false → entry_lines e ≡ l ∷ [] → kind l ≡ 0
    by_entry (entry.Dream uses steps) no_dream is = absurd (cc)
    by_entry entry.Level no_dream is = by_line _ is refl
    by_entry (entry.Ask n t c) no_dream is = by_line _ is refl
    by_entry (entry.Got n t v) no_dream is = by_line _ is refl
    by_entry (entry.Value n v) no_dream is = by_line _ is refl
    by_entry (entry.End n) no_dream is = by_line _ is refl
    by_entry entry.Nothing no_dream is = by_line _ is refl
    by_entry entry.Reset no_dream is = by_line _ is refl
    by_entry (entry.Pick n) no_dream is = by_line _ is refl
    by_entry (entry.Retire n) no_dream is = by_line _ is refl

opens_kind : (l : Line) (a b : ℕ) → l ≡ dream_line a b → kind l ≡ 1
unfolding kind is_entry_word
opens_kind l a b e = rw e refl

plans_kind : (l : Line) (m : ℕ) → l ≡ plan_line m → kind l ≡ 2
unfolding kind is_entry_word
plans_kind l m e = rw e refl

pool_kind : (l : Line) (p : _) → l ≡ pool_line p → kind l ≡ 3
unfolding kind is_entry_word
pool_kind l p e = rw e refl

ends_kind : (l : Line) → (l ≡ no_plan_line) ⊎ ((k : _) × (l ≡ limit_line k)) → kind l ≡ 4
unfolding kind is_entry_word
ends_kind l (inl e) = rw e refl
ends_kind l (inr e) = rw e.1 refl

head_field : List (List ℕ) → List ℕ
head_field [] = []
head_field (f ∷ fs) = f

tail_fields : List (List ℕ) → List (List ℕ)
tail_fields [] = []
tail_fields (f ∷ fs) = fs

-- ---- one place only

body_same : (version : ℕ) (l : Line) (m n : Place) → IsBodyStep version l m → IsBodyStep version l n
    → m ≡ n
unfolding head_field tail_fields
body_same version l m n (inl a) (inl b) = a.1 ∙ sym b.1
body_same version l m n (inl a) (inr (inl b)) =
    absurd (omega (arith, single_kind version l a.0, opens_kind l b.0 b.1 b.4))
body_same version l m n (inl a) (inr (inr (inl b))) =
    absurd (omega (arith, single_kind version l a.0, plans_kind l b.0 b.2))
body_same version l m n (inl a) (inr (inr (inr b))) =
    absurd (omega (arith, single_kind version l a.0, ends_kind l b.0))
body_same version l m n (inr (inl a)) (inl b) =
    absurd (omega (arith, single_kind version l b.0, opens_kind l a.0 a.1 a.4))
body_same version l m n (inr (inl a)) (inr (inl b)) =
    let lines : dream_line a.0 a.1 ≡ dream_line b.0 b.1 = sym a.4 ∙ b.4 in
    let uses : a.0 ≡ b.0 =
    decimal_injective a.0 b.0 (omega (arith, a.2)) (omega (arith, b.2)) (ap (λ (x : Line). head_field x.more) lines) in
    let steps : a.1 ≡ b.1 =
    decimal_injective a.1 b.1 (omega (arith, a.3)) (omega (arith, b.3)) (ap (λ (x : Line). head_field (tail_fields x.more)) lines) in
    a.5 ∙ (λ i. dreaming version (uses i) (steps i)) ∙ sym b.5
body_same version l m n (inr (inl a)) (inr (inr (inl b))) =
    absurd (omega (arith, opens_kind l a.0 a.1 a.4, plans_kind l b.0 b.2))
body_same version l m n (inr (inl a)) (inr (inr (inr b))) =
    absurd (omega (arith, opens_kind l a.0 a.1 a.4, ends_kind l b.0))
body_same version l m n (inr (inr (inl a))) (inl b) =
    absurd (omega (arith, single_kind version l b.0, plans_kind l a.0 a.2))
body_same version l m n (inr (inr (inl a))) (inr (inl b)) =
    absurd (omega (arith, opens_kind l b.0 b.1 b.4, plans_kind l a.0 a.2))
body_same version l m n (inr (inr (inl a))) (inr (inr (inl b))) =
    let steps : a.0 ≡ b.0 =
    decimal_injective a.0 b.0 (omega (arith, a.1)) (omega (arith, b.1)) (ap (λ (x : Line). head_field x.more) (sym a.2 ∙ b.2)) in
    a.3 ∙ ap (planning version) steps ∙ sym b.3
body_same version l m n (inr (inr (inl a))) (inr (inr (inr b))) =
    absurd (omega (arith, plans_kind l a.0 a.2, ends_kind l b.0))
body_same version l m n (inr (inr (inr a))) (inl b) =
    absurd (omega (arith, single_kind version l b.0, ends_kind l a.0))
body_same version l m n (inr (inr (inr a))) (inr (inl b)) =
    absurd (omega (arith, opens_kind l b.0 b.1 b.4, ends_kind l a.0))
body_same version l m n (inr (inr (inr a))) (inr (inr (inl b))) =
    absurd (omega (arith, plans_kind l b.0 b.2, ends_kind l a.0))
body_same version l m n (inr (inr (inr a))) (inr (inr (inr b))) = a.1 ∙ sym b.1

body_no_pool : (version : ℕ) (l : Line) (n : Place) → IsBodyStep version l n → kind l ≡ 3 → ⊥
body_no_pool version l n (inl a) k = absurd (omega (arith, single_kind version l a.0, k))
body_no_pool version l n (inr (inl a)) k = absurd (omega (arith, opens_kind l a.0 a.1 a.4, k))
body_no_pool version l n (inr (inr (inl a))) k = absurd (omega (arith, plans_kind l a.0 a.2, k))
body_no_pool version l n (inr (inr (inr a))) k = absurd (omega (arith, ends_kind l a.0, k))

pub step_same : (p : Place) (l : Line) (m n : Place) → IsLineStep p l m → IsLineStep p l n → m ≡ n
unfolding head_field tail_fields
step_same first l m n a b =
    let version : a.0 ≡ b.0 =
    decimal_injective a.0 b.0 (small_version a.0 a.2) (small_version b.0 b.2) (ap (λ (x : Line). head_field x.more) (sym a.3 ∙ b.3)) in
    a.4 ∙ ap limits version ∙ sym b.4
step_same (limits version) l m n a b = a.7 ∙ sym b.7
step_same (pools version) l m n (inl a) (inl b) = a.3 ∙ sym b.3
step_same (pools version) l m n (inl a) (inr b) =
    absurd (body_no_pool version l n b (pool_kind l a.0 a.2))
step_same (pools version) l m n (inr a) (inl b) =
    absurd (body_no_pool version l m a (pool_kind l b.0 b.2))
step_same (pools version) l m n (inr a) (inr b) = body_same version l m n a b
step_same (entries version) l m n a b = body_same version l m n a b
step_same (dream version zero zero) l m n a b = absurd a
step_same (dream version zero (suc steps)) l m n a b = a.3 ∙ sym b.3
step_same (dream version (suc uses) steps) l m n a b = a.3 ∙ sym b.3
step_same (plan version zero) l m n a b = absurd a
step_same (plan version (suc steps)) l m n a b = a.3 ∙ sym b.3
step_same (cost version) l m n a b = a.3 ∙ sym b.3
step_same (origins version) l m n (inl a) (inl b) = a.3 ∙ sym b.3
step_same (origins version) l m n (inl a) (inr b) =
    let same : true ≡ false = ap (λ (x : Line). bytes_eq x.first (codes "from")) (sym a.2 ∙ b.0) in absurd (cc)
step_same (origins version) l m n (inr a) (inl b) =
    let same : true ≡ false = ap (λ (x : Line). bytes_eq x.first (codes "from")) (sym b.2 ∙ a.0) in absurd (cc)
step_same (origins version) l m n (inr a) (inr b) = a.1 ∙ sym b.1
step_same last l m n a b = a.1 ∙ sym b.1
step_same behind l m n a b = absurd a

-- ---- completions

-- a place from which lines are left only where some are
abbrev pub IsLive : Place → Type 0
IsLive (dream version uses steps) = 0 < uses + steps
IsLive (plan version steps) = 0 < steps
IsLive p = Unit {0}

dreaming_live : (version uses steps : ℕ) → IsLive (dreaming version uses steps)
dreaming_live version zero zero = tt
dreaming_live version zero (suc steps) = omega arith
dreaming_live version (suc uses) steps = omega arith

planning_live : (version steps : ℕ) → IsLive (planning version steps)
planning_live version zero = tt
planning_live version (suc steps) = omega arith

body_live : (version : ℕ) (l : Line) (n : Place) → IsBodyStep version l n → IsLive n
body_live version l n (inl a) = subst IsLive (sym a.1) tt
body_live version l n (inr (inl a)) = subst IsLive (sym a.5) (dreaming_live version a.0 a.1)
body_live version l n (inr (inr (inl a))) = subst IsLive (sym a.3) (planning_live version a.0)
body_live version l n (inr (inr (inr a))) = subst IsLive (sym a.1) tt

pub step_live : (p : Place) (l : Line) (n : Place) → IsLineStep p l n → IsLive n
step_live first l n a = subst IsLive (sym a.4) tt
step_live (limits version) l n a = subst IsLive (sym a.7) tt
step_live (pools version) l n (inl a) = subst IsLive (sym a.3) tt
step_live (pools version) l n (inr a) = body_live version l n a
step_live (entries version) l n a = body_live version l n a
step_live (dream version zero zero) l n a = absurd a
step_live (dream version zero (suc steps)) l n a =
    subst IsLive (sym a.3) (dreaming_live version 0 steps)
step_live (dream version (suc uses) steps) l n a =
    subst IsLive (sym a.3) (dreaming_live version uses steps)
step_live (plan version zero) l n a = absurd a
step_live (plan version (suc steps)) l n a = subst IsLive (sym a.3) (planning_live version steps)
step_live (cost version) l n a = subst IsLive (sym a.3) tt
step_live (origins version) l n (inl a) = subst IsLive (sym a.3) tt
step_live (origins version) l n (inr a) = subst IsLive (sym a.1) tt
step_live last l n a = subst IsLive (sym a.1) tt
step_live behind l n a = absurd a

-- the lines that complete a report from a place on
abbrev Completes : Place → Type 0
Completes p = (ls : List Line) × IsPath p ls behind

some_call : Call
some_call = record { name = codes "a"; args = [] }

some_formed : IsFormedCall IsTerm some_call
unfolding some_call
some_formed = record { name = refl; args = All-nil IsTerm }

from_entries : (version : ℕ) → Completes (entries version)
from_entries version = (no_plan_line ∷ done_line ∷ [], (last, inr (inr (inr (inl refl, refl))), (behind, (refl, refl), refl)))

from_cost : (version : ℕ) → Completes (cost version)
from_cost version = (cost_line 0 ∷ done_line ∷ [], (origins version, (0, omega arith, refl, refl), (behind, inr (refl, refl), refl)))

from_steps : (version steps : ℕ) → Completes (dreaming version 0 steps)
from_steps version zero = from_entries version
from_steps version (suc steps) =
    let rest = from_steps version steps in
    (step_line some_call ∷ rest.0, (dreaming version 0 steps, (some_call, some_formed, refl, refl), rest.1))

from_uses : (version uses steps : ℕ) → Completes (dreaming version uses steps)
from_uses version zero steps = from_steps version steps
from_uses version (suc uses) steps =
    let rest = from_uses version uses steps in
    let u : DreamUse = record { number = 0; call = some_call } in
    (use_line u ∷ rest.0, (dreaming version uses steps, (u, (omega arith, some_formed), refl, refl), rest.1))

from_plan : (version steps : ℕ) → Completes (planning version steps)
from_plan version zero = from_cost version
from_plan version (suc steps) =
    let rest = from_plan version steps in
    (do_line some_call ∷ rest.0, (planning version steps, (some_call, some_formed, refl, refl), rest.1))

from_pools : (version : ℕ) → Completes (pools version)
from_pools version = (no_plan_line ∷ done_line ∷ [], (last, inr (inr (inr (inr (inl refl, refl)))), (behind, (refl, refl), refl)))

from_limits : (version : ℕ) → Completes (limits version)
from_limits version =
    let rest = from_pools version in
    (limits_line 1 1 1 ∷ rest.0, (pools version, (1, 1, 1, omega arith, omega arith, omega arith, refl, refl), rest.1))

pub completes : (p : Place) → IsLive p → (ls : List Line) × IsPath p ls behind
completes first live =
    let rest = from_limits 1 in (first_line 1 Incremental ∷ rest.0, (limits 1, (1, Incremental, inl refl, refl, refl), rest.1))
completes (limits version) live = from_limits version
completes (pools version) live = from_pools version
completes (entries version) live = from_entries version
completes (dream version zero zero) live = absurd (omega arith)
completes (dream version zero (suc steps)) live = from_steps version (suc steps)
completes (dream version (suc uses) steps) live = from_uses version (suc uses) steps
completes (plan version zero) live = absurd (omega arith)
completes (plan version (suc steps)) live = from_plan version (suc steps)
completes (cost version) live = from_cost version
completes (origins version) live = (done_line ∷ [], (behind, inr (refl, refl), refl))
completes last live = (done_line ∷ [], (behind, (refl, refl), refl))
completes behind live = ([], refl)

-- ---- paths

pub path_live : (p : Place) (ls : List Line) (n : Place) → IsLive p → IsPath p ls n → IsLive n
path_live p [] n live path = subst IsLive path live
path_live p (l ∷ ls) n live path = path_live path.0 ls n (step_live p l path.0 path.1) path.2

pub path_same : (p : Place) (ls : List Line) (m n : Place) → IsPath p ls m → IsPath p ls n → m ≡ n
path_same p [] m n a b = sym a ∙ b
path_same p (l ∷ ls) m n a b =
    path_same a.0 ls m n a.2 (subst (λ q. IsPath q ls n) (step_same p l b.0 a.0 b.1 a.1) b.2)

-- where a path goes on behind its front, the next line may stand there
pub path_goes_on : (p : Place) (front rest : List Line) (l : Line) (m to : Place)
    → IsPath p (front ++ l ∷ rest) to → IsPath p front m
    → (n : Place) × IsLineStep m l n
path_goes_on p [] rest l m to whole here =
    (whole.0, subst (λ q. IsLineStep q l whole.0) here whole.1)
path_goes_on p (k ∷ front) rest l m to whole here =
    path_goes_on whole.0 front rest l m to whole.2 (subst (λ q. IsPath q front m) (step_same p k here.0 whole.0 here.1 whole.1) here.2)
