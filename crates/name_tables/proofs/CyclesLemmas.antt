-- Faults of cycles, gone through from the front.
use Rattle.std.proofs.Common.{◌≡◌, ℕ, suc, ◌+◌, ◌<◌, ◌≤◌, Bool, true, false, List, [], ◌∷◌, length, drop, drop-cons, get_or, refl, subst, sym, ap, ◌∙◌, Option, arith}
use Rattle.std.proofs.lemmas.List.{drop_all}
use Rattle.form_reader.specs.declared.fault.Fault.{Fault}
use Rattle.form_reader.specs.declared.fault.InputKind.{InputKind}
use Rattle.form_reader.specs.Faults.{first}
use Rattle.name_tables.specs.Graphs.{IsCyclic}
use Rattle.name_tables.specs.Cycles.{AnswersCycle, AnswersCycles, no_more, cyclic, free, with_fault}
use Rattle.name_tables.specs.declared.cycles.Candidate.{Candidate}

pub none_left : (kind : InputKind) (edges : List (List ℕ)) (so_far : Option Fault)
    → AnswersCycles kind edges [] so_far so_far
none_left kind edges so_far = record { faults = []; right = no_more; least = refl }

module _ (kind : InputKind) (edges : List (List ℕ)) (c : Candidate) (cs : List Candidate) (so_far found answered : Option Fault) where
  by_there : (there : Bool) → IsCyclic edges c.node there
      → found ≡ with_fault there (record { place = c.place; kind = kind }) so_far
      → AnswersCycles kind edges cs found answered → AnswersCycles kind edges (c ∷ cs) so_far answered
  by_there true w e a = record {
    faults = record { place = c.place; kind = kind } ∷ a.faults;
    right = cyclic w a.right;
    least = a.least ∙ ap (λ g. first g a.faults) e;
  }
  by_there false n e a = record {
    faults = a.faults;
    right = free n a.right;
    least = a.least ∙ ap (λ g. first g a.faults) e;
  }

  pub one_more : AnswersCycle kind edges c so_far found → AnswersCycles kind edges cs found answered
      → AnswersCycles kind edges (c ∷ cs) so_far answered
  one_more o a = by_there o.there o.right o.least a

-- what is answered of the candidates from a place on is answered of all
abbrev Passed : InputKind → List (List ℕ) → List Candidate → ℕ → (begun so_far : Option Fault)
    → Type 0
Passed kind edges cs k begun so_far =
    (f : Option Fault) → AnswersCycles kind edges (drop k cs) so_far f → AnswersCycles kind edges cs begun f

pub pass_more : (kind : InputKind) (edges : List (List ℕ)) (cs : List Candidate) (k : ℕ) (d : Candidate) (begun so_far found : Option Fault)
    → k < length cs → AnswersCycle kind edges (get_or cs k d) so_far found → Passed kind edges cs k begun so_far
    → Passed kind edges cs (k + 1) begun found
pass_more kind edges cs k d begun so_far found lt one passed =
    λ f rest.
    let next : k + 1 ≡ suc k = omega arith in
    let front : drop k cs ≡ get_or cs k d ∷ drop (k + 1) cs = drop-cons cs k d lt ∙ ap (λ n. get_or cs k d ∷ drop n cs) (sym next) in
    passed f (subst (λ xs. AnswersCycles kind edges xs so_far f)
    (sym front) (one_more kind edges (get_or cs k d) (drop (k + 1) cs) so_far found f one rest))

pub pass_all : (kind : InputKind) (edges : List (List ℕ)) (cs : List Candidate) (k : ℕ) (begun so_far : Option Fault)
    → length cs ≤ k
    → Passed kind edges cs k begun so_far → AnswersCycles kind edges cs begun so_far
pass_all kind edges cs k begun so_far le passed =
    passed so_far (subst (λ xs. AnswersCycles kind edges xs so_far so_far) (sym (drop_all k cs le)) (none_left kind edges so_far))
