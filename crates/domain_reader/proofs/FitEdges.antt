-- Edges: what one more of them leads to, and what follows where there are no faults of cycles.
use Rattle.std.proofs.Common.{◌≡◌, ℕ, zero, suc, ◌<◌, Bool, true, ◌==◌, List, [], ◌∷◌, ◌++◌, length, refl, sym, ap, ◌∙◌, subst, arith, ◌⊎◌, inl, inr, slice_get}
use Rattle.std.specs.List.{list_any}
use Rattle.std.proofs.lemmas.Bool.{or_cases, eqb-true}
use Rattle.lemmas.specs.Lists.{LeadsAlong, has_number}
use Rattle.form_reader.specs.declared.fault.Fault.{Fault}
use Rattle.form_reader.specs.declared.fault.InputKind.{InputKind}
use Rattle.name_tables.specs.Declarations.{number_put}
use Rattle.name_tables.specs.Graphs.{HasWay, has_edge}
use Rattle.name_tables.proofs.GraphsOrderLemmas.{in_with, with_in}
use Rattle.name_tables.proofs.FitDeclared.{put_behind}
use Rattle.name_tables.proofs.NoFaultLemmas.{some_fault}
use Rattle.name_tables.specs.Cycles.{CycleFaults, no_more, cyclic, free}
use Rattle.name_tables.specs.declared.cycles.Candidate.{Candidate}

-- ---- one more edge

behind_leads : (ns : List ℕ) (lists : List (List ℕ)) (place n a b : ℕ)
    → has_edge (number_put (ns ∷ lists) (suc place) n) (suc a) b ≡ has_edge (number_put lists place n) a b
behind_leads ns lists place n a b =
    ap (λ es. has_edge es (suc a) b) (put_behind ns lists place n (slice_get lists place))

first_leads : (ns : List ℕ) (lists : List (List ℕ)) (place n b : ℕ)
    → has_edge (number_put (ns ∷ lists) (suc place) n) zero b ≡ has_number ns b
first_leads ns lists place n b =
    ap (λ es. has_edge es zero b) (put_behind ns lists place n (slice_get lists place))

-- what an edge leads to was led to before, or it is the new edge
pub put_leads : (lists : List (List ℕ)) (place n a b : ℕ)
    → has_edge (number_put lists place n) a b ≡ true
    → (has_edge lists a b ≡ true) ⊎ ((a ≡ place) × (b ≡ n))
put_leads [] place n a b h = inl h
put_leads (ns ∷ lists) zero n zero b h =
    elim (in_with ns n b h) [ inl e ↦ inr (refl, e) | inr e ↦ inl e ]
put_leads (ns ∷ lists) zero n (suc a) b h = inl h
put_leads (ns ∷ lists) (suc place) n zero b h = inl (sym (first_leads ns lists place n b) ∙ h)
put_leads (ns ∷ lists) (suc place) n (suc a) b h =
    elim (put_leads lists place n a b (sym (behind_leads ns lists place n a b) ∙ h)) [ inl e ↦ inl e | inr e ↦ inr (ap suc e.0, e.1) ]

pub put_keeps : (lists : List (List ℕ)) (place n a b : ℕ) → has_edge lists a b ≡ true
    → has_edge (number_put lists place n) a b ≡ true
put_keeps [] place n a b h = h
put_keeps (ns ∷ lists) zero n zero b h = with_in ns n b (inr h)
put_keeps (ns ∷ lists) zero n (suc a) b h = h
put_keeps (ns ∷ lists) (suc place) n zero b h = first_leads ns lists place n b ∙ h
put_keeps (ns ∷ lists) (suc place) n (suc a) b h =
    behind_leads ns lists place n a b ∙ put_keeps lists place n a b h

pub put_gets : (lists : List (List ℕ)) (place n : ℕ) → place < length lists
    → has_edge (number_put lists place n) place n ≡ true
put_gets [] place n lt = absurd (omega arith)
put_gets (ns ∷ lists) zero n lt = with_in ns n n (inl refl)
put_gets (ns ∷ lists) (suc place) n lt =
    behind_leads ns lists place n place n ∙ put_gets lists place n (omega arith)

-- ---- no fault of a cycle

abbrev pub is_candidate : List Candidate → ℕ → Bool
is_candidate cs k = list_any (λ (c : Candidate). c.node == k) cs

-- no candidate is on a cycle
pub none_cyclic : {kind : InputKind} {edges : List (List ℕ)} (cs : List Candidate) (fs : List Fault)
    → CycleFaults kind edges cs fs → fs ≡ [] → (k : ℕ) → is_candidate cs k ≡ true
    → ¬ (HasWay edges k k)
none_cyclic cs fs no_more none k h = absurd (cc)
none_cyclic cs fs (cyclic {c = c} {fs = gs} way rest) none k h = absurd (some_fault _ gs none)
none_cyclic {kind} {edges} cs fs (free {c = c} {cs = ds} {fs = gs} way rest) none k h =
    elim (or_cases (c.node == k) (is_candidate ds k) h) [
      | inl e ↦ subst (λ n. ¬ (HasWay edges n n)) (eqb-true c.node k e) way
      | inr e ↦ none_cyclic ds gs rest none k e
    ]

-- the end of a way is led to
pub way_within : (edges : List (List ℕ)) (P : ℕ → Type 0)
    → ((a b : ℕ) → has_edge edges a b ≡ true → P b) → (a : ℕ) (between : List ℕ) (b : ℕ)
    → LeadsAlong (has_edge edges) a between b → P b
way_within edges P each a [] b l = each a b l
way_within edges P each a (m ∷ ms) b l = way_within edges P each m ms b l.1

pub way_joined : (edges : List (List ℕ)) (a : ℕ) (between : List ℕ) (m : ℕ) (more : List ℕ) (b : ℕ)
    → LeadsAlong (has_edge edges) a between m → LeadsAlong (has_edge edges) m more b
    → LeadsAlong (has_edge edges) a (between ++ m ∷ more) b
way_joined edges a [] m more b l r = (l, r)
way_joined edges a (n ∷ ns) m more b l r = (l.0, way_joined edges n ns m more b l.1 r)
