-- Tables that are put together from their own names.
use Rattle.std.proofs.Common.{◌≡◌, ℕ, Bool, true, false, cond, List, [], ◌∷◌, ◌++◌, map, length, codes, refl, sym, ap, ◌∙◌}
use Rattle.std.proofs.lemmas.List.{map_push}
use Rattle.sexpr_text.specs.Trees.{Trees, nothing, word, list}
use Rattle.task_model.specs.declared.domain.Signature.{Signature}
use Rattle.form_reader.specs.declared.groups.Spot.{Spot}
use Rattle.form_reader.specs.declared.items.Item.{Item}
use Rattle.form_reader.specs.declared.items.Item.TheVariants as item
use Rattle.form_reader.specs.declared.items.TextKind.TheVariants as text
use Rattle.form_reader.specs.declared.groups.Spot.TheVariants.{Start}
use Rattle.form_reader.specs.Items.{item_of}
use Rattle.form_reader.specs.Rows.{after_word, head_of, is_dash, tail_of}
use Rattle.name_tables.specs.Declarations.{signature_list}
use Rattle.name_tables.specs.Names.{Signed, has_name, with_table_name, with_signature}
use Rattle.name_tables.specs.Variables.{is_named, named_words, seen_after, seen_with}
use Rattle.name_tables.specs.Vocabulary.{nothing_signed, put_signatures, with_total_cost}
use Rattle.name_tables.specs.declared.vocabulary.Vocabulary.{Vocabulary}
use Rattle.domain_reader.specs.Tables.{declared_arity, functions_in, no_names, predicates_in, types_in, vocabulary_in, with_item, with_items}

-- names behind those so far, each once
abbrev pub put : List (List ℕ) → List (List ℕ) → List (List ℕ)
put names [] = names
put names (n ∷ ns) = put (with_table_name names n) ns

pub put_append : (names ns ms : List (List ℕ)) → put names (ns ++ ms) ≡ put (put names ns) ms
put_append names [] ms = refl
put_append names (n ∷ ns) ms = put_append (with_table_name names n) ns ms

-- a table is what its own names make
abbrev pub IsTable : List (List ℕ) → Type 0
IsTable ns = put [] ns ≡ ns

grown : (ns : List (List ℕ)) (n : List ℕ) (b : Bool) → has_name n ns ≡ b → IsTable ns
    → put [] (cond b ns (ns ++ n ∷ [])) ≡ cond b ns (ns ++ n ∷ [])
grown ns n true e t = t
grown ns n false e t =
    put_append [] ns (n ∷ []) ∙ ap (λ ms. with_table_name ms n) t ∙ ap (λ b. cond b ns (ns ++ n ∷ [])) e

pub table_grows : (ns : List (List ℕ)) (n : List ℕ) → IsTable ns → IsTable (with_table_name ns n)
table_grows ns n t = grown ns n (has_name n ns) refl t

pub table_if : (b : Bool) (xs ys : List (List ℕ)) → IsTable xs → IsTable ys → IsTable (cond b xs ys)
table_if true xs ys s t = s
table_if false xs ys s t = t

pub table_seen : (ns : List (List ℕ)) (spot : Spot) (ts : Trees) → IsTable ns
    → IsTable (seen_after ns spot ts)
table_seen ns spot nothing t = t
table_seen ns spot (word w at rest) t =
    table_seen (seen_with ns spot w) (after_word spot w) rest (table_if (is_named spot w) (with_table_name ns w) ns (table_grows ns w t) t)
table_seen ns spot (list items at rest) t = t

pub table_types : (ns : List (List ℕ)) (ts : Trees) → IsTable ns → IsTable (types_in ns ts)
table_types ns nothing t = t
table_types ns (word w at rest) t =
    table_types (cond (is_dash w) ns (with_table_name ns w)) rest (table_if (is_dash w) ns (with_table_name ns w) t (table_grows ns w t))
table_types ns (list items at rest) t = table_types ns rest t

-- ---- declared names with their numbers of arguments

-- declarations that make the table
pub record IsSigned (s : Signed) : Type 0 where
  pub made : List Signature
  pub right : put_signatures nothing_signed made ≡ s
  pub names : map (λ (x : Signature). x.name) made ≡ s.names
  pub arities : map (λ (x : Signature). x.arity) made ≡ s.arities

pub none_signed : IsSigned nothing_signed
none_signed = record { made = []; right = refl; names = refl; arities = refl }

signed_append : (s : Signed) (xs ys : List Signature)
    → put_signatures s (xs ++ ys) ≡ put_signatures (put_signatures s xs) ys
signed_append s [] ys = refl
signed_append s (x ∷ xs) ys = signed_append (with_signature s x.name x.arity) xs ys

signed_by : (s : Signed) (n : List ℕ) (a : ℕ) (b : Bool) → has_name n s.names ≡ b → IsSigned s
    → IsSigned (cond b s (record { names = s.names ++ n ∷ []; arities = s.arities ++ a ∷ [] }))
signed_by s n a true e i = i
signed_by s n a false e i =
    record {
      made = i.made ++ record { name = n; arity = a } ∷ [];
      right =
          signed_append nothing_signed i.made (record { name = n; arity = a } ∷ [])
          ∙ ap (λ r. with_signature r n a) i.right
          ∙ ap (λ b. cond b s (record { names = s.names ++ n ∷ []; arities = s.arities ++ a ∷ [] })) e;
      names =
          map_push (λ (x : Signature). x.name) i.made (record { name = n; arity = a })
          ∙ ap (λ ns. ns ++ n ∷ []) i.names;
      arities =
          map_push (λ (x : Signature). x.arity) i.made (record { name = n; arity = a })
          ∙ ap (λ as'. as' ++ a ∷ []) i.arities;
    }

pub signed_grows : (s : Signed) (n : List ℕ) (a : ℕ) → IsSigned s → IsSigned (with_signature s n a)
signed_grows s n a i = signed_by s n a (has_name n s.names) refl i

side_by_side : (xs : List Signature)
    → signature_list (map (λ (x : Signature). x.name) xs) (map (λ (x : Signature). x.arity) xs) ≡ xs
side_by_side [] = refl
side_by_side (x ∷ xs) = ap (λ ys. x ∷ ys) (side_by_side xs)

-- the declarations of such a table make it
pub signed_again : (s : Signed) → IsSigned s
    → put_signatures nothing_signed (signature_list s.names s.arities) ≡ s
signed_again s i =
    ap (put_signatures nothing_signed) ((λ k. signature_list (sym i.names k) (sym i.arities k)) ∙ side_by_side i.made)
    ∙ i.right

pub signed_predicates : (s : Signed) (ts : Trees) → IsSigned s → IsSigned (predicates_in s ts)
signed_predicates s nothing i = i
signed_predicates s (word w at rest) i = signed_predicates s rest i
signed_predicates s (list items at rest) i =
    signed_predicates (with_signature s (head_of items) (length (named_words Start (tail_of items)))) rest
    (signed_grows s (head_of items) (length (named_words Start (tail_of items))) i)

pub signed_functions : (s : Signed) (ts : Trees) → IsSigned s → IsSigned (functions_in s ts)
signed_functions s nothing i = i
signed_functions s (word w at rest) i = signed_functions s rest i
signed_functions s (list items at rest) i =
    signed_functions (with_signature s (head_of items) (declared_arity (head_of items) (tail_of items))) rest
    (signed_grows s (head_of items) (declared_arity (head_of items) (tail_of items)) i)

-- ---- all the names of a domain's text

pub record IsBuilt (v : Vocabulary) : Type 0 where
  pub sorts : IsTable v.sorts
  pub predicates : IsSigned v.predicates
  pub functions : IsSigned v.functions
  pub objects : IsTable v.objects

built_item : (v : Vocabulary) (it : Item) (rest : Trees) → IsBuilt v → IsBuilt (with_item v it rest)
built_item v item.Types rest b = record
    { sorts = table_types v.sorts rest b.sorts; predicates = b.predicates; functions = b.functions; objects = b.objects }
built_item v item.Constants rest b = record
    { sorts = b.sorts; predicates = b.predicates; functions = b.functions; objects = table_seen v.objects Start rest b.objects }
built_item v item.Predicates rest b = record
    { sorts = b.sorts; predicates = signed_predicates v.predicates rest b.predicates; functions = b.functions; objects = b.objects }
built_item v item.Functions rest b = record
    { sorts = b.sorts; predicates = b.predicates; functions = signed_functions v.functions rest b.functions; objects = b.objects }
built_item v item.Requirements rest b = b
built_item v item.Derived rest b = b
built_item v item.Action rest b = b
built_item v item.Domain rest b = b
built_item v item.Objects rest b = b
built_item v item.Init rest b = b
built_item v item.Goal rest b = b
built_item v item.Metric rest b = b
built_item v item.Stream rest b = b
built_item v item.CostStream rest b = b
built_item v item.Unknown rest b = b
built_item v item.NoItem rest b = b

built_items : (v : Vocabulary) (body : Trees) → IsBuilt v → IsBuilt (with_items v body)
built_items v nothing b = b
built_items v (word w at rest) b = built_items v rest b
built_items v (list items at rest) b =
    built_items (with_item v (item_of text.Domain (head_of items)) (tail_of items)) rest
    (built_item v (item_of text.Domain (head_of items)) (tail_of items) b)

built_first : IsBuilt no_names
built_first =
    record { sorts = refl; predicates = none_signed; functions = none_signed; objects = refl }

built_total : (v : Vocabulary) → IsBuilt v → IsBuilt (with_total_cost v)
built_total v b = record {
  sorts = b.sorts;
  predicates = b.predicates;
  functions = signed_grows v.functions (codes "total-cost") 0 b.functions;
  objects = b.objects;
}

pub built : (body : Trees) → IsBuilt (vocabulary_in body)
built body = built_total (with_items no_names body) (built_items no_names body built_first)
