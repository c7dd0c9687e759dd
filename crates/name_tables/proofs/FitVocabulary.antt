-- The names of a fit domain stand once each, in its order.
use Rattle.std.proofs.Common.{◌≡◌, ℕ, ◌<◌, List, [], ◌∷◌, ◌++◌, map, length, sym, ap, ◌∙◌, append_assoc, codes, arith}
use Rattle.std.proofs.lemmas.Option.{slice_get_within}
use Rattle.std.proofs.lemmas.List.{append-nil, length-map}
use Rattle.task_model.specs.Fit.{IsFitDomain}
use Rattle.task_model.specs.declared.domain.Declared as declared
use Rattle.task_model.specs.declared.domain.Domain as domain
use Rattle.task_model.specs.declared.domain.Signature.{Signature}
use Rattle.task_model.specs.declared.domain.Sort as sort
use Rattle.name_tables.specs.Names.{Signed}
use Rattle.name_tables.specs.Vocabulary.{nothing_signed, put_constants, put_signatures, put_sorts, vocabulary_of}
use Rattle.name_tables.specs.declared.vocabulary.Vocabulary.{Vocabulary}
use Rattle.name_tables.proofs.NamesFreshLemmas.{AreFresh, fresh_from, name_new, signature_new}
use Rattle.name_tables.proofs.VocabularyLemmas.{AreNamesOf, AreSigned}

-- ---- types and constants

abbrev sort_names : List sort.Sort → List (List ℕ)
sort_names ss = map (λ (s : sort.Sort). s.name) ss

sorts_put : (names : List (List ℕ)) (ss : List sort.Sort) → AreFresh names (sort_names ss)
    → put_sorts names ss ≡ names ++ sort_names ss
sorts_put names [] f = sym (append-nil names)
sorts_put names (s ∷ ss) f =
    ap (λ ns. put_sorts ns ss) (name_new names s.name f.0) ∙ sorts_put (names ++ s.name ∷ []) ss f.1
    ∙ append_assoc names (s.name ∷ []) (sort_names ss)

abbrev pub constant_names : List declared.Declared → List (List ℕ)
constant_names cs = map (λ (c : declared.Declared). c.name) cs

pub constants_put : (names : List (List ℕ)) (cs : List declared.Declared)
    → AreFresh names (constant_names cs) → put_constants names cs ≡ names ++ constant_names cs
constants_put names [] f = sym (append-nil names)
constants_put names (c ∷ cs) f =
    ap (λ ns. put_constants ns cs) (name_new names c.name f.0)
    ∙ constants_put (names ++ c.name ∷ []) cs f.1
    ∙ append_assoc names (c.name ∷ []) (constant_names cs)

-- ---- predicates and functions

abbrev pub signature_names : List Signature → List (List ℕ)
signature_names gs = map (λ (g : Signature). g.name) gs

abbrev pub signature_arities : List Signature → List ℕ
signature_arities gs = map (λ (g : Signature). g.arity) gs

signatures_put : (s : Signed) (gs : List Signature) → AreFresh s.names (signature_names gs)
    → put_signatures s gs
    ≡ record { names = s.names ++ signature_names gs; arities = s.arities ++ signature_arities gs }
signatures_put s [] f =
    λ i. record { names = sym (append-nil s.names) i; arities = sym (append-nil s.arities) i }
signatures_put s (g ∷ gs) f =
    ap (λ r. put_signatures r gs) (signature_new s g.name g.arity f.0)
    ∙ signatures_put
    (record { names = s.names ++ g.name ∷ []; arities = s.arities ++ g.arity ∷ [] }) gs f.1
    ∙ (λ i. record {
      names = append_assoc s.names (g.name ∷ []) (signature_names gs) i;
      arities = append_assoc s.arities (g.arity ∷ []) (signature_arities gs) i;
    })

signed : (gs : List Signature) → AreFresh [] (signature_names gs)
    → AreSigned gs (put_signatures nothing_signed gs)
signed gs f =
    let put = signatures_put nothing_signed gs f in
    record {
      names = ap (λ (s : Signed). s.names) put;
      arities = ap (λ (s : Signed). s.arities) put;
    }

-- ---- all

pub names_known : (d : domain.Domain) → IsFitDomain d
    → AreNamesOf d (length d.constants) (vocabulary_of d)
names_known d fit =
    let types = fresh_from [] (sort_names d.sorts) fit.types.names.distinct in
    let constants = fresh_from [] (constant_names d.constants) fit.constants.names.distinct in
    record {
      sorts = ap length (sorts_put [] d.sorts types) ∙ length-map d.sorts (λ (s : sort.Sort). s.name);
      predicates =
          signed d.predicates
          (fresh_from [] (signature_names d.predicates) fit.predicates.names.distinct);
      functions =
          signed d.functions
          (fresh_from [] (signature_names d.functions) fit.functions.names.distinct);
      long =
          ap length (constants_put [] d.constants constants)
          ∙ length-map d.constants (λ (c : declared.Declared). c.name);
    }

pub sorts_some : (d : domain.Domain) (v : Vocabulary) → IsFitDomain d
    → length v.sorts ≡ length d.sorts → 0 < length v.sorts
sorts_some d v fit e = omega (arith, e, slice_get_within d.sorts 0 (record { name = codes "object"; above = [] }) fit.types.first)
