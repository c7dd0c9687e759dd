-- What words mean that clap takes, and those that it refuses.
use Rattle.std.proofs.Common.{◌≡◌, ◌≢◌, true, false, List, [], ◌∷◌, Option, None, refl, sym, ap, ◌∙◌, inl, inr}
use Rattle.clap.proofs.OnLiterals.{clap_on_literals}
use Rattle.clap.specs.Words.{App, HasKind, Kinds, Row, Text, fault_of, is_simple_and_free, kind_of, matches_of}
use Rattle.clap.specs.declared.error.Error.{Error}
use Rattle.clap.specs.declared.error.kind.ErrorKind.TheVariants.{OutOfMemory}
use Rattle.command_line.specs.Apps.{are_none, is_taken}
use Rattle.command_line.specs.Words.{read_by}
use Rattle.validate_app.specs.Words.{validate_app}

-- the program's words are of those whose matches clap gives
pub validate_simple : is_simple_and_free validate_app ≡ true
unfolding clap_on_literals validate_app
validate_simple = refl

-- ---- which words are taken

pub without_fault : (app : App) (words : List Text) → fault_of app words ≡ [] → is_taken app words ≡ true
unfolding is_taken
without_fault app words e = rw e refl

has_fault : (kinds : Kinds) (e : Error) → HasKind kinds e → kind_of e ≢ OutOfMemory
    → are_none kinds ≡ false
has_fault [] e (inl memory) other = absurd (other memory)
has_fault [] e (inr none) other = absurd none
has_fault (k ∷ ks) e has other = refl

pub with_fault : (app : App) (words : List Text) (e : Error) → HasKind (fault_of app words) e
    → kind_of e ≢ OutOfMemory
    → is_taken app words ≡ false
unfolding is_taken
with_fault app words e has other = has_fault (fault_of app words) e has other

-- ---- what is read of them

module _ {X : Type 0} (app here : App) (read : List Row → Option X) (words : List Text) (same : here ≡ app) where
  pub read_taken : (rows : List Row) → is_taken here words ≡ true → rows ≡ matches_of here words
      → read_by app read words ≡ read rows
  unfolding read_by
  read_taken rows taken are =
      let so : is_taken app words ≡ true = ap (λ a. is_taken a words) (sym same) ∙ taken in
      rw so (ap read (sym (are ∙ ap (λ a. matches_of a words) same)))

  pub read_refused : is_taken here words ≡ false → read_by app read words ≡ None
  unfolding read_by
  read_refused refused =
      let so : is_taken app words ≡ false = ap (λ a. is_taken a words) (sym same) ∙ refused in
      rw so refl
