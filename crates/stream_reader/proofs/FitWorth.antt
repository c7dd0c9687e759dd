-- The function term of a cost stream, without faults, is fit.
use Rattle.std.proofs.Common.{◌≡◌, ℕ, suc, Bool, true, false, cond, ◌==◌, List, [], ◌∷◌, ◌++◌, length, refl, sym, ap, subst, ◌∙◌, inl, inr, Some, slice_get, unwrap_or, codes, eq-eqb, arith}
use Rattle.std.specs.Str.{bytes_eq}
use Rattle.std.proofs.lemmas.Bool.{and_from, cases_Bool}
use Rattle.std.proofs.lemmas.Option.{slice_get_within}
use Rattle.std.proofs.lemmas.Slice.Eq.{bytes_eq-Decides}
use Rattle.std.proofs.lemmas.Map.Keys.{any_passes_from_place}
use Rattle.sexpr_text.specs.Trees.{Trees, nothing, word, list}
use Rattle.lemmas.proofs.Members.{push_cases, none_both}
use Rattle.task_model.specs.Fit.{is_fit_application}
use Rattle.task_model.specs.declared.domain.Domain.{Domain}
use Rattle.task_model.specs.declared.domain.Signature.{Signature}
use Rattle.form_reader.specs.declared.fault.InputKind.TheVariants.{Arity}
use Rattle.form_reader.specs.declared.words.WordSort.TheVariants.{Name, Term}
use Rattle.form_reader.specs.Atoms.{is_total_cost_alone, worth_faults}
use Rattle.form_reader.specs.Effects.{is_total_cost}
use Rattle.form_reader.specs.Faults.{shape, unsupported}
use Rattle.form_reader.specs.Rows.{application_faults, head_of, tail_of}
use Rattle.name_tables.specs.Names.{Signed, has_name}
use Rattle.name_tables.specs.Terms.{application_names, declared_place, terms_names, terms_of, use_names, width}
use Rattle.name_tables.specs.Variables.{unless}
use Rattle.name_tables.specs.Vocabulary.{arity_at, arity_of}
use Rattle.name_tables.specs.declared.vocabulary.Vocabulary.{Vocabulary}
use Rattle.name_tables.proofs.FitTerms.{AreFilled, application_fits}
use Rattle.name_tables.proofs.FitVocabulary.{signature_arities, signature_names}
use Rattle.name_tables.proofs.NoFaultLemmas.{some_fault}
use Rattle.name_tables.proofs.NamesUseLemmas.{IsUsable, place_holds, place_push, place_some, usable}
use Rattle.name_tables.proofs.VocabularyLemmas.{AreSigned}
use Rattle.name_tables.proofs.VocabularyLemmas as vocabularies
use Rattle.stream_reader.proofs.TablesDomainLemmas.{AreKnown, listed}

-- ---- the total cost alone is refused

not_alone : (b : Bool) (place : ℕ) (ts : Trees)
    → cond b (unsupported place ∷ []) (application_faults Name Term place ts) ≡ []
    → (b ≡ false) × (application_faults Name Term place ts ≡ [])
not_alone true place ts e = absurd (some_fault (unsupported place) [] e)
not_alone false place ts e = (refl, e)

alone : (w : List ℕ) (at : ℕ) (rest : Trees) → w ≡ codes "total-cost" → width rest ≡ 0
    → is_total_cost_alone (word w at rest) ≡ true
alone w at nothing same none =
    and_from (is_total_cost w) true ((bytes_eq-Decides w (codes "total-cost")).1 same) refl
alone w at (word x at' rest) same none = absurd (omega arith)
alone w at (list items at' rest) same none = absurd (omega arith)

-- ---- where the total cost stands behind the functions

module _ (gs : List Signature) where
  abbrev first_ones : Signed
  first_ones = listed gs

  abbrev pushed : Signed
  pushed = record { names = signature_names gs ++ codes "total-cost" ∷ []; arities = signature_arities gs ++ 0 ∷ [] }

  even : (hs : List Signature) → length (signature_names hs) ≡ length (signature_arities hs)
  even [] = refl
  even (h ∷ hs) = ap (λ m. suc m) (even hs)

  -- a name that is there is used as before
  pub record IsFront (w : List ℕ) (count : ℕ) : Type 0 where
    pub place : declared_place pushed w ≡ declared_place first_ones w
    pub arity : arity_of first_ones w ≡ Some count

  front : (w : List ℕ) (count : ℕ) → has_name w (signature_names gs) ≡ true
      → IsUsable pushed w count → IsFront w count
  front w count there used =
      let same : declared_place pushed w ≡ declared_place first_ones w =
      ap (λ o. unwrap_or o 0) (place_push w (codes "total-cost") (signature_names gs) there) in
      let inside = slice_get_within (signature_names gs) (declared_place first_ones w) w (place_holds w (signature_names gs) there) in
      let at : slice_get (signature_arities gs ++ 0 ∷ []) (declared_place first_ones w) ≡ Some count =
      ap (slice_get (signature_arities gs ++ 0 ∷ [])) (sym same) ∙ used.arity in
      record {
        place = same;
        arity =
            ap (arity_at first_ones) (place_some w (signature_names gs) there)
            ∙ elim (push_cases (signature_arities gs) 0 (declared_place first_ones w) count at) [
              | inl h ↦ h
              | inr h ↦ absurd (omega (arith, h.0, inside, even gs))
            ];
      }

  -- no other name is used but the total cost, alone
  behind : (w : List ℕ) (count : ℕ) → has_name w (signature_names gs) ≡ false
      → IsUsable pushed w count → (w ≡ codes "total-cost") × (count ≡ 0)
  behind w count absent used =
      elim (push_cases (signature_names gs) (codes "total-cost")
      (declared_place pushed w) w (place_holds w (signature_names gs ++ codes "total-cost" ∷ []) used.there)) [
        | inl h ↦ absurd (let there : has_name w (signature_names gs) ≡ true =
            any_passes_from_place (bytes_eq w) (signature_names gs) (declared_place pushed w) w h ((bytes_eq-Decides w w).1 refl) in
            cc)
        | inr h ↦ (h.1, last h.0)
      ]
    where
      last : declared_place pushed w ≡ length (signature_names gs) → count ≡ 0
      last e =
          elim (push_cases (signature_arities gs) 0 (declared_place pushed w) count used.arity) [
            | inl h ↦ absurd (omega (arith, e, even gs, slice_get_within (signature_arities gs) (declared_place pushed w) count h))
            | inr h ↦ h.1
          ]

  used_front : (w : List ℕ) (at : ℕ) (rest : Trees) → is_total_cost_alone (word w at rest) ≡ false
      → IsUsable pushed w (width rest) → IsFront w (width rest)
  used_front w at rest other used =
      elim (cases_Bool (has_name w (signature_names gs))) [
        | inl there ↦ front w (width rest) there used
        | inr absent ↦
            let last = behind w (width rest) absent used in
            absurd (let is : is_total_cost_alone (word w at rest) ≡ true = alone w at rest last.0 last.1 in cc)
      ]

-- ---- the term

arity_fits : (count place : ℕ) → unless (count == count) Arity place ≡ []
arity_fits count place = ap (λ b. unless b Arity place) (eq-eqb count count refl)

module _ (d : Domain) (v : Vocabulary) (known : AreKnown d v) (scope : List (List ℕ))
    (filled : List ℕ) (slots : AreFilled filled (length scope)) where
  abbrev own : Signed
  own = listed d.functions

  itself : AreSigned d.functions own
  itself = record { names = refl; arities = refl }

  -- a term of the domain's own functions
  own_fit : (place : ℕ) (ts : Trees) → application_faults Name Term place ts ≡ []
      → application_names own v.objects scope place ts ≡ []
      → is_fit_application d.functions (length d.constants) filled (declared_place own (head_of ts)) (terms_of v.objects scope (tail_of ts))
      ≡ true
  own_fit place ts e f =
      (λ i. is_fit_application (vocabularies.listed d.functions own itself i) (known.objects i) filled
      (declared_place own (head_of ts)) (terms_of v.objects scope (tail_of ts)))
      ∙ application_fits own v.objects scope filled slots Name Term place ts e f

  abbrev IsFit : Signed → Trees → Type 0
  IsFit s ts =
      is_fit_application d.functions (length d.constants) filled (declared_place s (head_of ts)) (terms_of v.objects scope (tail_of ts))
      ≡ true

  pushed_fit : (place : ℕ) (ts : Trees) → is_total_cost_alone ts ≡ false
      → application_faults Name Term place ts ≡ []
      → application_names (pushed d.functions) v.objects scope place ts ≡ []
      → IsFit (pushed d.functions) ts
  pushed_fit place nothing other e f = absurd (some_fault (shape place) [] e)
  pushed_fit place (list items at rest) other e f = absurd (some_fault (shape at) [] e)
  pushed_fit place (word w at rest) other e f =
      let parts = none_both (use_names (arity_of (pushed d.functions) w) (width rest) at place) (terms_names v.objects scope rest) f in
      let is = used_front d.functions w at rest other (usable (pushed d.functions) w (width rest) at place parts.0) in
      let clean : application_names own v.objects scope place (word w at rest) ≡ [] =
      (λ i. use_names (is.arity i) (width rest) at place ++ terms_names v.objects scope rest)
      ∙ (λ i. arity_fits (width rest) place i ++ parts.1 i) in
      ap (λ n. is_fit_application d.functions (length d.constants) filled n (terms_of v.objects scope rest)) is.place
      ∙ own_fit place (word w at rest) e clean

  fit_by : (b : Bool) (place : ℕ) (ts : Trees) → is_total_cost_alone ts ≡ false
      → application_faults Name Term place ts ≡ []
      → application_names (cond b own (pushed d.functions)) v.objects scope place ts ≡ []
      → IsFit (cond b own (pushed d.functions)) ts
  fit_by true place ts other e f = own_fit place ts e f
  fit_by false place ts other e f = pushed_fit place ts other e f

  -- a term without faults, other than the total cost alone
  pub worth_fit : (place : ℕ) (ts : Trees) → worth_faults place ts ≡ []
      → application_names v.functions v.objects scope place ts ≡ [] → IsFit v.functions ts
  worth_fit place ts e f =
      let form = not_alone (is_total_cost_alone ts) place ts e in
      subst (λ s. IsFit s ts) (sym known.functions)
      (fit_by (has_name (codes "total-cost") (signature_names d.functions)) place ts form.0 form.1
      (ap (λ s. application_names s v.objects scope place ts) (sym known.functions) ∙ f))
