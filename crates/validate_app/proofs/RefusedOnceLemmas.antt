-- A text is refused for one fault, at one place.
use Rattle.std.proofs.Common.{◌≡◌, ◌⊎◌, ℕ, ◌++◌, List, [], ◌∷◌, refl, sym, ap, subst, ◌∙◌, inl, inr, Ok, Err, Some}
use Rattle.std.proofs.lemmas.Option.{same_Some}
use Rattle.domain_reader.specs.Domains as domains
use Rattle.domain_reader.specs.Domains.{AreNameFaults, plain_names}
use Rattle.form_reader.specs.Faults.{least_fault}
use Rattle.form_reader.specs.declared.fault.Fault.{Fault}
use Rattle.form_reader.specs.declared.fault.InputKind.{InputKind}
use Rattle.name_tables.specs.Cycles.{CycleFaults, no_more, cyclic, free}
use Rattle.name_tables.specs.Texts.{body_of}
use Rattle.name_tables.specs.declared.cycles.Candidate.{Candidate}
use Rattle.name_tables.specs.declared.vocabulary.Vocabulary.{Vocabulary}
use Rattle.problem_reader.specs.Problems as problems
use Rattle.sexpr_text.specs.Reading.{reading}
use Rattle.sexpr_text.specs.Trees.{Trees}
use Rattle.sexpr_text.specs.declared.fault.TextFault.{TextFault}
use Rattle.sexpr_text.specs.declared.fault.TextFault.TheVariants as text
use Rattle.stream_reader.specs.Reading as streams
use Rattle.task_model.specs.declared.domain.Domain.{Domain}
use Rattle.task_reader.specs.Refusals.{IsRefused, of_text}
use Rattle.task_reader.specs.declared.refusal.FaultKind.{FaultKind}
use Rattle.task_reader.specs.declared.refusal.FaultKind.TheVariants.{BadByte, Unclosed, Extra, TooDeep, Input}
use Rattle.task_reader.specs.declared.refusal.InputRefusal.TheVariants.{At}

-- ---- trees

-- of a tree one fault at most is answered
abbrev pub IsOneFault : (Trees → Fault → Type 0) → Type 0
IsOneFault IsAnswered = (t : Trees) (f g : Fault) → IsAnswered t f → IsAnswered t g → f ≡ g

-- what stands behind a refusal: a fault of bytes, or one of the tree that they spell
abbrev OfBytes : List ℕ → FaultKind → ℕ → Type 0
OfBytes bytes kind place =
    (fault : TextFault) × (reading bytes ≡ Err fault) × (of_text fault ≡ At kind place)

abbrev OfTree : (Trees → Fault → Type 0) → List ℕ → FaultKind → ℕ → Type 0
OfTree IsAnswered bytes kind place =
    (t : Trees) × (f : Fault) × (reading bytes ≡ Ok t) × IsAnswered t f × (At (Input f.kind) f.place ≡ At kind place)

module _ (IsAnswered : Trees → Fault → Type 0) (one : IsOneFault IsAnswered) (bytes : List ℕ) where
  behind : (kind : FaultKind) (place : ℕ) → IsRefused IsAnswered bytes kind place
      → OfBytes bytes kind place ⊎ OfTree IsAnswered bytes kind place
  behind BadByte place r = inl (text.BadByte place, r, refl)
  behind Unclosed place r = inl (text.Unclosed place, r, refl)
  behind Extra place r = inl (text.Extra place, r, refl)
  behind TooDeep place r = inl (text.TooDeep place, r, refl)
  behind (Input kind) place r =
      inr (r.tree, record { place = place; kind = kind }, r.spelled, r.holds, refl)

  -- the refusal is one
  pub refused_once : (kind than : FaultKind) (place other : ℕ) → IsRefused IsAnswered bytes kind place
      → IsRefused IsAnswered bytes than other → At kind place ≡ At than other
  refused_once kind than place other r s = by (behind kind place r) (behind than other s)
    where
      by : OfBytes bytes kind place ⊎ OfTree IsAnswered bytes kind place
          → OfBytes bytes than other ⊎ OfTree IsAnswered bytes than other → At kind place ≡ At than other
      by (inl (a, spelled, is)) (inl (b, again, so)) =
          let same : a ≡ b = (let both = sym spelled ∙ again in cc) in sym is ∙ ap (λ x. of_text x) same ∙ so
      by (inl (a, spelled, is)) (inr (t, f, again, answered, so)) = absurd (let both = sym spelled ∙ again in cc)
      by (inr (t, f, spelled, answered, is)) (inl (b, again, so)) = absurd (let both = sym spelled ∙ again in cc)
      by (inr (t, f, spelled, answered, is)) (inr (u, g, again, also, so)) =
          let trees : u ≡ t = (let both = sym again ∙ spelled in cc) in
          let same = one t f g answered (subst (λ v. IsAnswered v g) trees also) in
          sym is ∙ ap (λ (h : Fault). At (Input h.kind) h.place) same ∙ so

-- ---- faults of trees

no_least : (fs : List Fault) (f : Fault) → fs ≡ [] → least_fault fs ≡ Some f → ⊥
no_least fs f none e = absurd (let both = sym (ap least_fault none) ∙ e in cc)

-- the faults of cycles are one list
one_cycles : (kind : InputKind) (edges : List (List ℕ)) (cs : List Candidate) (fs gs : List Fault)
    → CycleFaults kind edges cs fs → CycleFaults kind edges cs gs → fs ≡ gs
one_cycles kind edges [] fs gs no_more no_more = refl
one_cycles kind edges (c ∷ cs) fs gs (cyclic way a) (cyclic other b) =
    ap (λ rest. record { place = c.place; kind = kind } ∷ rest) (one_cycles kind edges cs _ _ a b)
one_cycles kind edges (c ∷ cs) fs gs (cyclic way a) (free none b) = absurd (none way)
one_cycles kind edges (c ∷ cs) fs gs (free none a) (cyclic way b) = absurd (none way)
one_cycles kind edges (c ∷ cs) fs gs (free none a) (free other b) =
    one_cycles kind edges cs fs gs a b

-- the name faults of a domain are one list
one_names : (v : Vocabulary) (body : Trees) (fs gs : List Fault) → AreNameFaults v body fs
    → AreNameFaults v body gs → fs ≡ gs
one_names v body fs gs a b =
    a.all
    ∙ (λ i. plain_names v body ++ one_cycles _ _ _ a.types b.types a.types_right b.types_right i
    ++ one_cycles _ _ _ a.derived b.derived a.derived_right b.derived_right i)
    ∙ sym b.all

pub one_domain_fault : IsOneFault domains.IsDomainAnswered
one_domain_fault t f g (domains.of_form d) (domains.of_form e) = same_Some f g (sym d ∙ e)
one_domain_fault t f g (domains.of_form d) (domains.of_names {faults} formed are e) =
    absurd (no_least _ f formed d)
one_domain_fault t f g (domains.of_names {faults} formed are d) (domains.of_form e) =
    absurd (no_least _ g formed e)
one_domain_fault t f g (domains.of_names {faults} formed are d) (domains.of_names {faults = others} again also e) =
    same_Some f g (sym d ∙ ap least_fault (one_names (domains.domain_names t) (body_of t) faults others are also) ∙ e)

pub one_problem_fault : (d : Domain) → IsOneFault (problems.IsProblemAnswered d)
one_problem_fault d t f g (problems.of_form a) (problems.of_form b) = same_Some f g (sym a ∙ b)
one_problem_fault d t f g (problems.of_form a) (problems.of_names formed b) = absurd (no_least _ f formed a)
one_problem_fault d t f g (problems.of_names formed a) (problems.of_form b) = absurd (no_least _ g formed b)
one_problem_fault d t f g (problems.of_names formed a) (problems.of_names also b) = same_Some f g (sym a ∙ b)

one_name_fault : (d : Domain) (t : Trees) (f g : Fault) → streams.IsNameFault d t f → streams.IsNameFault d t g → f ≡ g
one_name_fault d t f g (streams.of_names a) (streams.of_names b) = same_Some f g (sym a ∙ b)
one_name_fault d t f g (streams.of_names a) (streams.of_cycles {faults} named are b) = absurd (no_least _ f named a)
one_name_fault d t f g (streams.of_cycles {faults} named are a) (streams.of_names b) = absurd (no_least _ g named b)
one_name_fault d t f g (streams.of_cycles {faults} named are a) (streams.of_cycles {faults = others} again also b) =
    same_Some f g (sym a ∙ ap least_fault (one_cycles _ _ _ faults others are also) ∙ b)

pub one_streams_fault : (d : Domain) → IsOneFault (streams.AreStreamsAnswered d)
one_streams_fault d t f g (streams.of_form a) (streams.of_form b) = same_Some f g (sym a ∙ b)
one_streams_fault d t f g (streams.of_form a) (streams.of_text formed b) = absurd (no_least _ f formed a)
one_streams_fault d t f g (streams.of_text formed a) (streams.of_form b) = absurd (no_least _ g formed b)
one_streams_fault d t f g (streams.of_text formed a) (streams.of_text also b) = one_name_fault d t f g a b
