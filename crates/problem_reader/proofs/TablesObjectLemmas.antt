-- Constants by their names alone, and with their types.
use Rattle.std.proofs.Common.{◌≡◌, ℕ, ◌+◌, Bool, true, false, not, cond, List, [], ◌∷◌, ◌++◌, length, length-append, refl, sym, ap, ◌∙◌, Option, Some, None, arith, slice_get}
use Rattle.std.proofs.lemmas.List.{length-set}
use Rattle.std.specs.List.{position_or_len}
use Rattle.std.specs.Str.{bytes_eq}
use Rattle.lemmas.proofs.Positions.{any_within}
use Rattle.sexpr_text.specs.Trees.{Trees, nothing, word, list}
use Rattle.form_reader.specs.declared.groups.Spot.{Spot}
use Rattle.form_reader.specs.declared.groups.Spot.TheVariants.{Named, Typed as Typed'}
use Rattle.form_reader.specs.Rows.{after_word}
use Rattle.name_tables.specs.Declarations.{Typed, declare, declare_each, declared_by, declared_list, put_number}
use Rattle.name_tables.specs.Graphs.{ascending_with}
use Rattle.name_tables.specs.Names.{has_name, table_place, with_table_name}
use Rattle.name_tables.specs.Variables.{is_named, named_sorts, named_words, seen_after}
use Rattle.name_tables.specs.Vocabulary.{put_constants}
use Rattle.problem_reader.proofs.TablesLemmas.{put}

-- ---- a name has a place exactly where it is there

pub placed : (n : List ℕ) (ns : List (List ℕ))
    → table_place n ns ≡ cond (has_name n ns) (Some (position_or_len (bytes_eq n) ns)) None
placed n ns = ap (λ b. cond b (Some (position_or_len (bytes_eq n) ns)) None) (sym (any_within (bytes_eq n) ns))

-- ---- the names of what is declared

named_by : (t : Typed) (n : List ℕ) (s k : ℕ) (b : Bool) → has_name n t.names ≡ b
    → (declared_by t n s (cond b (Some k) None)).names ≡ cond b t.names (t.names ++ n ∷ [])
named_by t n s k true e = refl
named_by t n s k false e = ap (λ b. cond b t.names (t.names ++ n ∷ [])) e

pub names_declared : (t : Typed) (n : List ℕ) (s : ℕ) → (declare t n s).names ≡ with_table_name t.names n
names_declared t n s =
    ap (λ o. (declared_by t n s o).names) (placed n t.names)
    ∙ named_by t n s (position_or_len (bytes_eq n) t.names) (has_name n t.names) refl

put_names_length : (lists : List (List ℕ)) (place n : ℕ) (o : Option (List ℕ))
    → length (put_number lists place n o) ≡ length lists
put_names_length lists place n None = refl
put_names_length lists place n (Some old) = length-set lists place (ascending_with old n)

even_by : (t : Typed) (n : List ℕ) (s k : ℕ) (b : Bool) → has_name n t.names ≡ b
    → length t.names ≡ length t.sorts
    → length (declared_by t n s (cond b (Some k) None)).names ≡ length (declared_by t n s (cond b (Some k) None)).sorts
even_by t n s k true e h = h ∙ sym (put_names_length t.sorts k s (slice_get t.sorts k))
even_by t n s k false e h =
    ap (λ b. length (cond b t.names (t.names ++ n ∷ []))) e ∙ length-append t.names (n ∷ []) ∙ ap (λ m. m + 1) h
    ∙ sym (length-append t.sorts ((s ∷ []) ∷ []))

-- as many names as lists of types
even_declared : (t : Typed) (n : List ℕ) (s : ℕ) → length t.names ≡ length t.sorts
    → length (declare t n s).names ≡ length (declare t n s).sorts
even_declared t n s h =
    (λ k. length (declared_by t n s (placed n t.names k)).names)
    ∙ even_by t n s (position_or_len (bytes_eq n) t.names) (has_name n t.names) refl h
    ∙ sym (λ k. length (declared_by t n s (placed n t.names k)).sorts)

pub names_each : (t : Typed) (ns : List (List ℕ)) (ss : List ℕ) → length ss ≡ length ns
    → (declare_each t ns ss).names ≡ put t.names ns
names_each t [] ss e = refl
names_each t (n ∷ ns) [] e = absurd (omega arith)
names_each t (n ∷ ns) (s ∷ ss) e =
    names_each (declare t n s) ns ss (omega arith) ∙ ap (λ m. put m ns) (names_declared t n s)

pub even_each : (t : Typed) (ns : List (List ℕ)) (ss : List ℕ) → length t.names ≡ length t.sorts
    → length (declare_each t ns ss).names ≡ length (declare_each t ns ss).sorts
even_each t [] ss h = h
even_each t (n ∷ ns) [] h = h
even_each t (n ∷ ns) (s ∷ ss) h = even_each (declare t n s) ns ss (even_declared t n s h)

-- ---- groups

seen_by : (names : List (List ℕ)) (w : List ℕ) (ws : List (List ℕ)) (b : Bool)
    → put (cond b (with_table_name names w) names) ws ≡ put names (cond b (w ∷ ws) ws)
seen_by names w ws true = refl
seen_by names w ws false = refl

pub seen_put : (names : List (List ℕ)) (spot : Spot) (ts : Trees)
    → seen_after names spot ts ≡ put names (named_words spot ts)
seen_put names spot nothing = refl
seen_put names spot (word w at rest) =
    seen_put (cond (is_named spot w) (with_table_name names w) names) (after_word spot w) rest
    ∙ seen_by names w (named_words (after_word spot w) rest) (is_named spot w)
seen_put names spot (list items at rest) = refl

pub none_more : (n : ℕ) → 0 + n ≡ n
none_more n = omega arith

behind :
    (sorts : List (List ℕ)) (waiting : ℕ) (w : List ℕ) (rest : Trees) (b : Bool) →
    length (named_sorts sorts Typed' waiting rest) ≡ waiting + length (named_words Typed' rest) →
    length (named_sorts sorts Named (waiting + 1) rest) ≡ waiting + 1 + length (named_words Named rest) →
    length (cond (not b) (named_sorts sorts Named (waiting + 1) rest) (named_sorts sorts Typed' waiting rest))
    ≡ waiting + length (cond (not b) (w ∷ named_words (cond b Typed' Named) rest) (named_words (cond b Typed' Named) rest))
behind sorts waiting w rest true typed more = typed
behind sorts waiting w rest false typed more = omega (arith, more)

-- ---- as the domain has them

pub constants_put : (names ns ss : List (List ℕ)) → length ns ≡ length ss
    → put_constants names (declared_list ns ss) ≡ put names ns
constants_put names [] ss e = refl
constants_put names (n ∷ ns) [] e = absurd (omega arith)
constants_put names (n ∷ ns) (s ∷ ss) e = constants_put (with_table_name names n) ns ss (omega arith)
