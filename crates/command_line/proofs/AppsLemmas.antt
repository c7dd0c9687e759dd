-- Words that clap takes, and those that it refuses.
use Rattle.std.proofs.Common.{◌≡◌, ◌≢◌, true, false, List, [], ◌∷◌, refl, inl, inr}
use Rattle.clap.specs.Words.{App, HasKind, Kinds, Text, fault_of, kind_of, is_simple_and_free}
use Rattle.clap.specs.declared.error.Error.{Error}
use Rattle.clap.specs.declared.error.kind.ErrorKind.TheVariants.{OutOfMemory}
use Rattle.clap.proofs.OnLiterals.{clap_on_literals}
use Rattle.command_line.specs.Apps.{are_none, deorder_app, generate_app, is_taken, migrate_app, play_app, replay_app, solve_app}

pub taken : (app : App) (words : List Text) → fault_of app words ≡ [] → is_taken app words ≡ true
unfolding is_taken
taken app words e = rw e refl

some_fault : (kinds : Kinds) (e : Error) → HasKind kinds e → kind_of e ≢ OutOfMemory
    → are_none kinds ≡ false
some_fault [] e (inl memory) other = absurd (other memory)
some_fault [] e (inr none) other = absurd none
some_fault (k ∷ ks) e has other = refl

pub refused : (app : App) (words : List Text) (e : Error) → HasKind (fault_of app words) e
    → kind_of e ≢ OutOfMemory
    → is_taken app words ≡ false
unfolding is_taken
refused app words e has other = some_fault (fault_of app words) e has other

-- ---- the commands are of those whose matches clap gives

pub solve_simple : is_simple_and_free solve_app ≡ true
unfolding clap_on_literals solve_app
solve_simple = refl

pub replay_simple : is_simple_and_free replay_app ≡ true
unfolding clap_on_literals replay_app
replay_simple = refl

pub deorder_simple : is_simple_and_free deorder_app ≡ true
unfolding clap_on_literals deorder_app
deorder_simple = refl

pub play_simple : is_simple_and_free play_app ≡ true
unfolding clap_on_literals play_app
play_simple = refl

pub generate_simple : is_simple_and_free generate_app ≡ true
unfolding clap_on_literals generate_app
generate_simple = refl

pub migrate_simple : is_simple_and_free migrate_app ≡ true
unfolding clap_on_literals migrate_app
migrate_simple = refl
