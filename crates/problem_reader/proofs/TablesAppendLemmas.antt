-- Names that are put behind others.
use Rattle.std.proofs.Common.{◌≡◌, ℕ, ◌+◌, ◌≤◌, List, [], ◌∷◌, ◌++◌, take, length, refl, sym, ap, subst, ◌∙◌, append_assoc, arith}
use Rattle.std.proofs.lemmas.Bool.{cond_both}
use Rattle.std.proofs.lemmas.List.{append-nil}
use Rattle.lemmas.proofs.Members.{take_append}
use Rattle.sexpr_text.specs.Trees.{Trees, size}
use Rattle.form_reader.specs.declared.groups.Spot.TheVariants.{Start}
use Rattle.form_reader.specs.declared.words.WordSort.TheVariants.{Name}
use Rattle.form_reader.specs.Rows.{groups_faults}
use Rattle.name_tables.specs.Declarations.{Typed, declare, declare_each}
use Rattle.name_tables.specs.Names.{has_name, with_table_name}
use Rattle.name_tables.specs.Variables.{named_sorts, named_words}
use Rattle.name_tables.proofs.FitDeclared.{groups_declared}
use Rattle.name_tables.proofs.VariablesWidthLemmas.{words_length}
use Rattle.problem_reader.proofs.TablesObjectLemmas.{names_declared}
use Rattle.task_model.proofs.KnownLemmas.{length_with_names}

-- ---- names are only put behind the others

-- the names begin with these
pub record BeginsWith (ns ms : List (List ℕ)) : Type 0 where
  pub more : List (List ℕ)
  pub split : ms ≡ ns ++ more

pub begins_itself : (ns : List (List ℕ)) → BeginsWith ns ns
begins_itself ns = record { more = []; split = sym (append-nil ns) }

pub begins_twice : (ns ms ks : List (List ℕ)) → BeginsWith ns ms → BeginsWith ms ks
    → BeginsWith ns ks
begins_twice ns ms ks p q = record
    { more = p.more ++ q.more; split = q.split ∙ ap (λ xs. xs ++ q.more) p.split ∙ append_assoc ns p.more q.more }

pub begins_with : (ns : List (List ℕ)) (n : List ℕ) → BeginsWith ns (with_table_name ns n)
begins_with ns n =
    cond_both (has_name n ns) ns (ns ++ n ∷ []) (BeginsWith ns) (λ known. begins_itself ns) (λ no. record { more = n ∷ []; split = refl })

pub begins_each : (t : Typed) (ns : List (List ℕ)) (ss : List ℕ)
    → BeginsWith t.names (declare_each t ns ss).names
begins_each t [] ss = begins_itself t.names
begins_each t (n ∷ ns) [] = begins_itself t.names
begins_each t (n ∷ ns) (s ∷ ss) =
    begins_twice t.names (declare t n s).names (declare_each (declare t n s) ns ss).names
    (subst (BeginsWith t.names) (sym (names_declared t n s)) (begins_with t.names n)) (begins_each (declare t n s) ns ss)

-- so they are the first of them
pub first_ones : (ns ms : List (List ℕ)) → BeginsWith ns ms → ns ≡ take (length ns) ms
first_ones ns ms b = sym (ap (take (length ns)) b.split ∙ take_append ns b.more)

-- ---- how many

-- each declared name takes a byte
pub declared_length : (sorts : List (List ℕ)) (t : Typed) (place : ℕ) (ts : Trees)
    → groups_faults Name place Start ts ≡ []
    → length (declare_each t (named_words Start ts) (named_sorts sorts Start 0 ts)).names ≤ length t.names + size ts
declared_length sorts t place ts e =
    omega (arith, ap length (groups_declared sorts t ts), length_with_names t.names (named_words Start ts), words_length place Start ts e)
