-- Lines that are put behind a text, one by one.
use Rattle.std.proofs.Common.{◌≡◌, ℕ, add-one, ◌+◌, ◌==◌, Bool, cond, List, [], ◌∷◌, ◌++◌, map, filter, sym, ap, ◌∙◌, arith, append_assoc, slice_index_or, eq-eqb}
use Rattle.std.proofs.lemmas.Bool.{ne_eqb}
use Rattle.std.specs.Fmt.{decimal}
use Rattle.lemmas.proofs.Numbers.{numbers_more}
use Rattle.lemmas.specs.Lists.{numbers_from}
use Rattle.plan_deorder.proofs.PairLemmas.{filter_push, flat_map_push, map_push}
use Rattle.plan_deorder.specs.Orders.{stage_at}
use Rattle.report_text.specs.Texts.{Line, fields_text, line_text, lines_text}
use Rattle.order_text.specs.Texts.{stage_line}

-- ---- one more

line_put : {A : Type 0} (f : A → Line) (old text : List ℕ) (xs : List A) (x : A) → text ≡ old ++ lines_text (map f xs)
    → text ++ line_text (f x) ≡ old ++ lines_text (map f (xs ++ x ∷ []))
line_put f old text xs x so_far =
    ap (λ t. t ++ line_text (f x)) so_far ∙ append_assoc old (lines_text (map f xs)) (line_text (f x))
    ∙ ap (λ t. old ++ t) (sym (ap lines_text (map_push f xs x) ∙ flat_map_push line_text (map f xs) (f x)))

field_put : {A : Type 0} (f : A → List ℕ) (old text : List ℕ) (xs : List A) (x : A) → text ≡ old ++ fields_text (map f xs)
    → text ++ 32 ∷ f x ≡ old ++ fields_text (map f (xs ++ x ∷ []))
field_put f old text xs x so_far =
    ap (λ t. t ++ 32 ∷ f x) so_far ∙ append_assoc old (fields_text (map f xs)) (32 ∷ f x)
    ∙ ap (λ t. old ++ t) (sym (ap fields_text (map_push f xs x) ∙ flat_map_push (λ field. 32 ∷ field) (map f xs) (f x)))

ones_next : (n : ℕ) → numbers_from 1 (n + 1) ≡ numbers_from 1 n ++ (n + 1) ∷ []
ones_next n =
    let next : 1 + n ≡ n + 1 = omega arith in numbers_more 1 n ∙ ap (λ k. numbers_from 1 n ++ k ∷ []) next

-- ---- the steps of a stage

-- those of the first so many steps that stand in the stage
abbrev pub members_to : List ℕ → ℕ → ℕ → List ℕ
members_to stages stage n = filter (λ k. stage_at stages k == stage) (numbers_from 1 n)

members_next : (stages : List ℕ) (stage n : ℕ)
    → members_to stages stage (n + 1)
    ≡ cond (slice_index_or stages n 0 == stage) (members_to stages stage n ++ (n + 1) ∷ []) (members_to stages stage n)
members_next stages stage n =
    let p : ℕ → Bool = λ k. stage_at stages k == stage in
    ap (filter p) (ones_next n) ∙ filter_push p (numbers_from 1 n) (n + 1)
    ∙ ap (λ k. cond (stage_at stages k == stage) (members_to stages stage n ++ (n + 1) ∷ []) (members_to stages stage n)) (add-one n)

module _ (stages : List ℕ) (stage n : ℕ) (old text : List ℕ)
    (so_far : text ≡ old ++ fields_text (map decimal (members_to stages stage n))) where
  abbrev either : Bool → List ℕ
  either b = cond b (members_to stages stage n ++ (n + 1) ∷ []) (members_to stages stage n)

  pub member_put : slice_index_or stages n 0 ≡ stage
      → text ++ 32 ∷ decimal (n + 1) ≡ old ++ fields_text (map decimal (members_to stages stage (n + 1)))
  member_put is =
      field_put decimal old text (members_to stages stage n) (n + 1) so_far
      ∙ ap (λ ks. old ++ fields_text (map decimal ks))
      (sym (members_next stages stage n ∙ ap either (eq-eqb (slice_index_or stages n 0) stage is)))

  pub member_left : ¬ (slice_index_or stages n 0 ≡ stage)
      → text ≡ old ++ fields_text (map decimal (members_to stages stage (n + 1)))
  member_left other =
      so_far
      ∙ ap (λ ks. old ++ fields_text (map decimal ks))
      (sym (members_next stages stage n ∙ ap either (ne_eqb (slice_index_or stages n 0) stage other)))

-- ---- stages

pub stage_put : (stages : List ℕ) (n : ℕ) (old text : List ℕ) → text ≡ old ++ lines_text (map (stage_line stages) (numbers_from 1 n))
    → text ++ line_text (stage_line stages (n + 1)) ≡ old ++ lines_text (map (stage_line stages) (numbers_from 1 (n + 1)))
stage_put stages n old text so_far =
    line_put (stage_line stages) old text (numbers_from 1 n) (n + 1) so_far
    ∙ ap (λ ns. old ++ lines_text (map (stage_line stages) ns)) (sym (ones_next n))
