-- The names of a legal transcript are printed bytes.
use Rattle.std.proofs.Common.{◌≡◌, ℕ, ◌==◌, ◌&&◌, ◌||◌, nat_le, Bool, true, All, List, [], ◌∷◌, length, refl, sym, subst, arith, eqb-true, inl, inr, not}
use Rattle.std.proofs.lemmas.Bool.{and_from, or_cases}
use Rattle.std.proofs.lemmas.Bool.Decides.{nat_tests}
use Rattle.std.proofs.lemmas.List.Elements.{All-weaker}
use Rattle.std.specs.Cmp.{first_so, second_so}
use Rattle.std.specs.List.{list_all}
use Rattle.gen_lines.specs.Laws.{is_printed}
use Rattle.gen_lines.specs.Reply.{is_reserved, is_value, is_value_byte}
use Rattle.lemmas.proofs.ListTests.{all_weaker}
use Rattle.report_text.proofs.FormsNameLemmas.{names_formed}
use Rattle.report_text.specs.Forms.{IsName, IsObject}
use Rattle.task_model.specs.Fit.{IsFit, is_digit, is_letter, is_name_byte}
use Rattle.task_model.specs.declared.task.Task.{Task}
use Rattle.transcript_model.specs.Legal.{IsLegal}
use Rattle.transcript_model.specs.Transcript.{names_of}
use Rattle.transcript_model.specs.declared.entry.Entry.{Entry}

abbrev visible : ℕ → Bool
visible b = nat_le 33 b && nat_le b 126

letter_visible : (b : ℕ) → is_letter b ≡ true → visible b ≡ true
letter_visible b e =
    and_from (nat_le 33 b) (nat_le b 126) (grind (arith, nat_tests, first_so (nat_le 97 b) (nat_le b 122) e))
    (grind (arith, nat_tests, second_so (nat_le 97 b) (nat_le b 122) e))

digit_visible : (b : ℕ) → is_digit b ≡ true → visible b ≡ true
digit_visible b e =
    and_from (nat_le 33 b) (nat_le b 126) (grind (arith, nat_tests, first_so (nat_le 48 b) (nat_le b 57) e))
    (grind (arith, nat_tests, second_so (nat_le 48 b) (nat_le b 57) e))

name_visible : (b : ℕ) → is_name_byte b ≡ true → visible b ≡ true
name_visible b e =
    elim (or_cases (is_letter b || is_digit b || (b == 45)) (b == 95) e) [
      | inr low ↦ subst (λ n. visible n ≡ true) (sym (eqb-true b 95 low)) refl
      | inl more ↦ elim (or_cases (is_letter b || is_digit b) (b == 45) more) [
        | inr dash ↦ subst (λ n. visible n ≡ true) (sym (eqb-true b 45 dash)) refl
        | inl plain ↦ elim (or_cases (is_letter b) (is_digit b) plain) [
          | inl letter ↦ letter_visible b letter
          | inr digit ↦ digit_visible b digit
        ]
      ]
    ]

pub name_printed : (name : List ℕ) → IsName name → is_printed name ≡ true
name_printed [] e = absurd (cc)
name_printed (b ∷ bs) e =
    let front = first_so (is_letter b && list_all is_name_byte bs) _ e in
    and_from (visible b) (list_all visible bs) (letter_visible b (first_so (is_letter b) (list_all is_name_byte bs) front))
    (all_weaker is_name_byte visible name_visible bs (second_so (is_letter b) (list_all is_name_byte bs) front))

value_visible : (b : ℕ) → is_value_byte b ≡ true → visible b ≡ true
value_visible b e = first_so (nat_le 33 b && nat_le b 126) (not (is_reserved b)) e

values_visible : (value : List ℕ) → is_value value ≡ true → list_all visible value ≡ true
unfolding is_value
values_visible value e =
    all_weaker is_value_byte visible value_visible value
    (second_so (nat_le 1 (length value) && nat_le (length value) 64) (list_all is_value_byte value) e)

pub object_printed : (name : List ℕ) → IsObject name → is_printed name ≡ true
object_printed name (inl declared) = name_printed name declared
object_printed name (inr made) = rw (made.1, values_visible made.0 made.2) refl

pub names_printed : (version : ℕ) (task : Task) (entries : List Entry) → IsFit task → IsLegal version task entries
    → All (λ name. is_printed name ≡ true) (names_of task entries)
names_printed version task entries fit legal =
    All-weaker IsObject (λ name. is_printed name ≡ true) object_printed (names_of task entries)
    (names_formed version task fit entries legal)
