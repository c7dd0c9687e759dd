-- Values marked from left to right.
use Rattle.std.proofs.Common.{◌≡◌, ℕ, ◌+◌, ◌≤◌, Bool, true, false, List, [], ◌∷◌, ◌++◌, length, map, take, refl, sym, ap, ◌∙◌, subst, arith, slice_set, append_assoc, All}
use Rattle.std.specs.List.{list_all}
use Rattle.std.proofs.lemmas.List.{take_more_set, map-append}
use Rattle.std.proofs.lemmas.List.Elements.{All-append, All-nil, All-cons}
use Rattle.std.proofs.lemmas.List.Folds.{list_all-append}
use Rattle.gen_lines.specs.Reply.{is_value, joined_tuples, parted}
use Rattle.gen_lines.specs.Told.{Lies, text_at}
use Rattle.gen_lines.proofs.ReplyTupleLemmas.{Step, joined_other, parted_other, parts_of}

-- the first places are those of values, and the other values are still to come
pub record AreFirst (line : List ℕ) (values here : List (List ℕ)) (bars : Bool) (total : ℕ) (places : List (ℕ × ℕ))
    (count : ℕ) : Type 0 where
  pub room : count + length (joined_tuples (parted bars here)) ≡ total
  pub valid : list_all is_value (map (text_at line) (take count places)) ≡ true
  pub same : values ≡ map (text_at line) (take count places) ++ joined_tuples (parted bars here)
  pub lie : All (Lies line) (take count places)

pub first_more : (line : List ℕ) (values here : List (List ℕ)) (bars : Bool) (total : ℕ) (places : List (ℕ × ℕ))
    (count : ℕ) (field : List ℕ) (next : List (List ℕ)) (span : ℕ × ℕ)
    →
    AreFirst line values here bars total places count → Step bars here field next false → is_value field ≡ true → text_at line span ≡ field
    → Lies line span → total ≤ length places →
    AreFirst line values next bars total (slice_set places count span) (count + 1)
first_more line values here bars total places count field next span m s valid text lies enough =
    let others : joined_tuples (parted bars here) ≡ field ∷ joined_tuples (parted bars next) =
    rw (s.first, parted_other bars field next s.part) (joined_other field (parted bars next) (parts_of bars next)) in
    let room : count + 1 + length (joined_tuples (parted bars next)) ≡ total = omega (arith, m.room, ap length others) in
    let grown : take (count + 1) (slice_set places count span) ≡ take count places ++ span ∷ [] =
    take_more_set places count span (omega arith) in
    let shown : map (text_at line) (take (count + 1) (slice_set places count span)) ≡ map (text_at line) (take count places) ++ field ∷ [] =
    rw (grown, map-append) (ap (λ t. map (text_at line) (take count places) ++ t ∷ []) text) in
    record {
      room = room;
      valid = rw (shown, list_all-append, m.valid, valid) refl;
      same = m.same ∙ rw (shown, append_assoc, others) refl;
      lie = subst (All (Lies line)) (sym grown)
          (All-append (Lies line) (take count places) (span ∷ []) m.lie (All-cons (Lies line) span [] lies (All-nil (Lies line))));
    }
