-- What texts spell is one thing, and what spells isn't refused.
use Rattle.std.proofs.Common.{◌≡◌, ℕ, ◌+◌, ◌++◌, ◌==◌, cond, true, List, [], ◌∷◌, map, length, refl, sym, subst, ap, ◌∙◌, Some, Result, Ok, Err}
use Rattle.std.specs.List.{list_any}
use Rattle.sexpr_text.specs.Reading.{reading}
use Rattle.sexpr_text.specs.Trees.{Trees}
use Rattle.lemmas.specs.Lists.{numbers_from, has_number}
use Rattle.task_model.specs.Roles.{role_of}
use Rattle.task_model.specs.declared.domain.Domain.{Domain}
use Rattle.task_model.specs.declared.domain.Action.{Action}
use Rattle.task_model.specs.declared.domain.Derived as derived
use Rattle.task_model.specs.declared.domain.Pattern.{Pattern}
use Rattle.task_model.specs.declared.domain.Role.TheVariants.{Static, Fluent, Derived}
use Rattle.task_model.specs.declared.domain.Sort as sort
use Rattle.task_model.specs.declared.stream.Stream.{Stream}
use Rattle.task_model.specs.declared.task.Problem.{Problem}
use Rattle.task_model.specs.declared.task.Task.{Task}
use Rattle.form_reader.specs.declared.fault.Fault.{Fault}
use Rattle.form_reader.specs.declared.fault.InputKind.{InputKind}
use Rattle.form_reader.specs.Faults.{least_fault}
use Rattle.name_tables.specs.Graphs.{AreReached}
use Rattle.name_tables.specs.declared.vocabulary.Vocabulary.{Vocabulary}
use Rattle.domain_reader.specs.Cycles.{AreSorts, IsAbove, more_sorts, no_sorts}
use Rattle.name_tables.specs.Cycles.{CycleFaults, no_more, cyclic, free}
use Rattle.domain_reader.specs.Domains as domains
use Rattle.domain_reader.specs.Domains.{AreNameFaults, plain_names}
use Rattle.name_tables.specs.Texts.{body_of}
use Rattle.problem_reader.specs.Problems as problems
use Rattle.stream_reader.specs.Reading as streams
use Rattle.task_reader.specs.Refusals.{IsRefused, SpellsTree}
use Rattle.task_reader.specs.Tasks.{SpellsTask}
use Rattle.task_reader.specs.Texts.{SpellsDomain, SpellsProblem, SpellsStreams, RefusesDomain, RefusesProblem, RefusesStreams}
use Rattle.task_reader.specs.declared.refusal.FaultKind.{FaultKind}
use Rattle.task_reader.specs.declared.refusal.FaultKind.TheVariants.{BadByte, Unclosed, Extra, TooDeep, Input}
use Rattle.task_reader.proofs.RisingLemmas.{one_ascending}
use Rattle.task_reader.specs.Spelled.{AreNotRefused}

-- ---- trees

same_ok : {A E : Type 0} (r : Result A E) (x y : A) → r ≡ Ok x → r ≡ Ok y → x ≡ y
same_ok r x y a b = let both = sym a ∙ b in cc

ok_no_err : {A E : Type 0} (r : Result A E) (x : A) (e : E) → r ≡ Ok x → r ≡ Err e → ⊥
ok_no_err r x e a b = absurd (let both = sym a ∙ b in cc)

-- two things that a text spells are those of one tree
pub of_one_tree : (bytes : List ℕ) (P Q : Trees → Type 0) (C : Type 0)
    → ((t : Trees) → P t → Q t → C) → SpellsTree bytes P
    → SpellsTree bytes Q → C
of_one_tree bytes P Q C f a b =
    f a.tree a.holds (subst Q (same_ok (reading bytes) b.tree a.tree b.spelled a.spelled) b.holds)

-- a text that spells a tree is refused only for a fault of the tree
pub not_refused : (bytes : List ℕ) (Holds : Trees → Type 0) (IsAnswered : Trees → Fault → Type 0) (kind : FaultKind) (place : ℕ)
    → ((t : Trees) (f : Fault) → Holds t → IsAnswered t f → ⊥) → SpellsTree bytes Holds → IsRefused IsAnswered bytes kind place → ⊥
not_refused bytes Holds IsAnswered BadByte place f s r =
    ok_no_err (reading bytes) s.tree _ s.spelled r
not_refused bytes Holds IsAnswered Unclosed place f s r =
    ok_no_err (reading bytes) s.tree _ s.spelled r
not_refused bytes Holds IsAnswered Extra place f s r =
    ok_no_err (reading bytes) s.tree _ s.spelled r
not_refused bytes Holds IsAnswered TooDeep place f s r =
    ok_no_err (reading bytes) s.tree _ s.spelled r
not_refused bytes Holds IsAnswered (Input kind) place f s r =
    of_one_tree bytes Holds (λ t. IsAnswered t (record { place = place; kind = kind })) ⊥
    (λ t h a. f t (record { place = place; kind = kind }) h a) s r

-- ---- faults

no_least : (fs : List Fault) (f : Fault) → fs ≡ [] → least_fault fs ≡ Some f → ⊥
no_least fs f none e = absurd (let both = sym (ap least_fault none) ∙ e in cc)

-- the faults of cycles are one list
one_cycles : (kind : InputKind) (edges : List (List ℕ)) (cs : _) (fs gs : List Fault)
    → CycleFaults kind edges cs fs
    → CycleFaults kind edges cs gs → fs ≡ gs
one_cycles kind edges [] fs gs no_more no_more = refl
one_cycles kind edges (c ∷ cs) fs gs (cyclic way a) (cyclic other b) =
    ap (λ rest. record { place = c.place; kind = kind } ∷ rest) (one_cycles kind edges cs _ _ a b)
one_cycles kind edges (c ∷ cs) fs gs (cyclic way a) (free none b) = absurd (none way)
one_cycles kind edges (c ∷ cs) fs gs (free none a) (cyclic way b) = absurd (none way)
one_cycles kind edges (c ∷ cs) fs gs (free none a) (free other b) =
    one_cycles kind edges cs fs gs a b

-- the name faults of a domain are one list
one_names : (v : Vocabulary) (body : Trees) (fs gs : List Fault) → AreNameFaults v body fs
    → AreNameFaults v body gs → fs ≡ gs
one_names v body fs gs a b =
    a.all
    ∙ (λ i. plain_names v body ++ one_cycles _ _ _ a.types b.types a.types_right b.types_right i
    ++ one_cycles _ _ _ a.derived b.derived a.derived_right b.derived_right i)
    ∙ sym b.all

-- ---- a tree that is read isn't refused

read_domain : (t : Trees) (d : Domain) (f : Fault) → domains.IsDomainRead t d
    → domains.IsDomainAnswered t f → ⊥
read_domain t d f r (domains.of_form e) = no_least _ f r.formed e
read_domain t d f r (domains.of_names {faults} formed are e) =
    no_least faults f (one_names (domains.domain_names t) (body_of t) faults [] are r.named) e

read_problem : (d : Domain) (t : Trees) (p : Problem) (f : Fault) → problems.IsProblemRead d t p
    → problems.IsProblemAnswered d t f → ⊥
read_problem d t p f r (problems.of_form e) = no_least _ f r.formed e
read_problem d t p f r (problems.of_names formed e) = no_least _ f r.named e

read_names : (d : Domain) (t : Trees) (ss : List Stream) (f : Fault) → streams.AreStreamsNamed d t ss
    → streams.IsNameFault d t f → ⊥
read_names d t ss f n (streams.of_names e) = no_least _ f n.named e
read_names d t ss f n (streams.of_cycles {faults} named are e) =
    no_least faults f (one_cycles _ _ _ faults [] are n.acyclic) e

read_streams : (d : Domain) (t : Trees) (ss : List Stream) (f : Fault) → streams.AreRead d t ss
    → streams.AreStreamsAnswered d t f → ⊥
read_streams d t ss f r (streams.of_form e) = no_least _ f r.formed e
read_streams d t ss f r (streams.of_text formed n) = read_names d t ss f r.named n

-- ---- a tree is one domain

one_reached : (edges : List (List ℕ)) (a : ℕ) (xs ys : List ℕ) → AreReached edges a xs
    → AreReached edges a ys → (b : ℕ)
    → has_number xs b ≡ true → has_number ys b ≡ true
one_reached edges a xs ys x y b h = let way = x.only b h in y.all b way.between way.steps

one_above : (edges : List (List ℕ)) (k : ℕ) (xs ys : List ℕ) → IsAbove edges k xs
    → IsAbove edges k ys → xs ≡ ys
one_above edges k xs ys x y =
    x.sorted
    ∙ one_ascending x.reached y.reached (one_reached edges k x.reached y.reached x.right y.right)
    (one_reached edges k y.reached x.reached y.right x.right)
    ∙ sym y.sorted

one_sorts : (edges : List (List ℕ)) (k : ℕ) (names : List (List ℕ)) (ss ts : List sort.Sort)
    → AreSorts edges k names ss
    → AreSorts edges k names ts → ss ≡ ts
one_sorts edges k [] [] [] no_sorts no_sorts = refl
one_sorts edges k [] [] (t ∷ ts) x y = elim y [ ]
one_sorts edges k [] (s ∷ ss) ts x y = elim x [ ]
one_sorts edges k (n ∷ ns) [] ts x y = elim x [ ]
one_sorts edges k (n ∷ ns) (s ∷ ss) [] x y = elim y [ ]
one_sorts edges k (n ∷ ns) (s ∷ ss) (t ∷ ts) (more_sorts a more) (more_sorts b others) =
    λ i. record { name = n; above = one_above edges k s.above t.above a b i } ∷ one_sorts edges (k + 1) ns ss ts more others i

same_role : (d e : Domain) (pred : ℕ) → d.derived ≡ e.derived → d.actions ≡ e.actions
    → role_of d pred ≡ role_of e pred
unfolding role_of
same_role d e pred rules actions = λ i.
    cond (list_any (λ (x : derived.Derived). x.pred == pred) (rules i)) Derived
    (cond (list_any (λ (a : Action). list_any (λ (p : Pattern). p.pred == pred) (a.adds ++ a.deletes)) (actions i)) Fluent Static)

one_domain : (t : Trees) (d e : Domain) → domains.IsDomainRead t d → domains.IsDomainRead t e
    → d ≡ e
one_domain t d e r s =
    let p = r.domain.parts in
    let q = s.domain.parts in
    let rules : d.derived ≡ e.derived = p.derived ∙ sym q.derived in
    let actions : d.actions ≡ e.actions = p.actions ∙ sym q.actions in
    let predicates : d.predicates ≡ e.predicates = p.predicates ∙ sym q.predicates in
    let roles : d.roles ≡ e.roles =
    r.domain.roles ∙ (λ i. map (λ pred. same_role d e pred rules actions i) (numbers_from 0 (length (predicates i))))
    ∙ sym s.domain.roles in
    let name : d.name ≡ e.name = p.name ∙ sym q.name in
    let functions : d.functions ≡ e.functions = p.functions ∙ sym q.functions in
    let constants : d.constants ≡ e.constants = p.constants ∙ sym q.constants in
    let sorts : d.sorts ≡ e.sorts = one_sorts _ 0 _ d.sorts e.sorts p.sorts q.sorts in
    λ i. record {
      name = name i;
      sorts = sorts i;
      predicates = predicates i;
      functions = functions i;
      constants = constants i;
      derived = rules i;
      actions = actions i;
      roles = roles i;
    }

-- ---- texts

pub text_one_domain : (bytes : List ℕ) (d e : Domain) → SpellsDomain bytes d → SpellsDomain bytes e
    → d ≡ e
text_one_domain bytes d e a b =
    of_one_tree bytes (λ t. domains.IsDomainRead t d) (λ t. domains.IsDomainRead t e) (d ≡ e) (λ t r s. one_domain t d e r s) a b

pub text_one_problem : (d : Domain) (bytes : List ℕ) (p q : Problem) → SpellsProblem d bytes p
    → SpellsProblem d bytes q → p ≡ q
text_one_problem d bytes p q a b =
    of_one_tree bytes (λ t. problems.IsProblemRead d t p) (λ t. problems.IsProblemRead d t q) (p ≡ q)
    (λ t r s. r.problem ∙ sym s.problem) a b

pub text_one_streams : (d : Domain) (bytes : List ℕ) (ss ts : List Stream)
    → SpellsStreams d bytes ss → SpellsStreams d bytes ts → ss ≡ ts
text_one_streams d bytes ss ts a b =
    of_one_tree bytes (λ t. streams.AreRead d t ss) (λ t. streams.AreRead d t ts) (ss ≡ ts)
    (λ t r s. r.named.streams ∙ sym s.named.streams) a b

pub domain_not_refused : (bytes : List ℕ) (d : Domain) (kind : FaultKind) (place : ℕ)
    → SpellsDomain bytes d
    → RefusesDomain bytes kind place → ⊥
domain_not_refused bytes d kind place s r =
    not_refused bytes (λ t. domains.IsDomainRead t d) domains.IsDomainAnswered kind place (λ t f. read_domain t d f) s r

pub problem_not_refused : (d : Domain) (bytes : List ℕ) (p : Problem) (kind : FaultKind) (place : ℕ)
    → SpellsProblem d bytes p
    → RefusesProblem d bytes kind place → ⊥
problem_not_refused d bytes p kind place s r =
    not_refused bytes (λ t. problems.IsProblemRead d t p) (problems.IsProblemAnswered d) kind place (λ t f. read_problem d t p f) s r

pub streams_not_refused : (d : Domain) (bytes : List ℕ) (ss : List Stream) (kind : FaultKind) (place : ℕ)
    → SpellsStreams d bytes ss
    → RefusesStreams d bytes kind place → ⊥
streams_not_refused d bytes ss kind place s r =
    not_refused bytes (λ t. streams.AreRead d t ss) (streams.AreStreamsAnswered d) kind place (λ t f. read_streams d t ss f) s r

-- ---- tasks

pub one_task : (a b c : List ℕ) (t u : Task) → SpellsTask a b c t → SpellsTask a b c u → t ≡ u
one_task a b c t u s r =
    let domain : t.domain ≡ u.domain = text_one_domain a t.domain u.domain s.domain r.domain in
    let problem : t.problem ≡ u.problem =
    text_one_problem t.domain b t.problem u.problem s.problem (subst (λ d. SpellsProblem d b u.problem) (sym domain) r.problem) in
    let streams : t.streams ≡ u.streams =
    text_one_streams t.domain c t.streams u.streams s.streams (subst (λ d. SpellsStreams d c u.streams) (sym domain) r.streams) in
    λ i. record { domain = domain i; problem = problem i; streams = streams i }

pub task_not_refused : (a b c : List ℕ) (task : Task) → SpellsTask a b c task → AreNotRefused a b c
task_not_refused a b c task s = record {
  first = λ kind place r. domain_not_refused a task.domain kind place s.domain r;
  second = λ kind place r.
      problem_not_refused task.domain b task.problem kind place s.problem
      (subst (λ d. RefusesProblem d b kind place) (text_one_domain a r.domain task.domain r.first s.domain) r.refused);
  third = λ kind place r.
      streams_not_refused task.domain c task.streams kind place s.streams
      (subst (λ d. RefusesStreams d c kind place) (text_one_domain a r.domain task.domain r.first s.domain) r.refused);
}
