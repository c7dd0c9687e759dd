-- The numbers that the words of a command mean are in their ranges.
use Rattle.std.proofs.Common.{◌≡◌, ◌≤◌, ℕ, arith, Bool, true, false, ◌&&◌, nat_le, List, [], ◌∷◌, codes, bytes_eq, subst, Some, None, Option, refl, if◌then◌else◌, option_map}
use Rattle.std.proofs.lemmas.Bool.{leb-true}
use Rattle.std.specs.Cmp.{first_so, second_so}
use Rattle.std.specs.Str.Parse.{digits_value}
use Rattle.transcript_model.proofs.NamesLemmas.{map_some}
use Rattle.transcript_model.specs.declared.head.Mode.{Mode}
use Rattle.transcript_model.specs.declared.head.Mode.TheVariants.{Incremental, Focused, Binding, Adaptive}
use Rattle.clap.specs.Words.{App, Row, Text, first_of, matches_of}
use Rattle.command_line.specs.Apps.{deorder_app, generate_app, is_taken, play_app, replay_app, solve_app}
use Rattle.command_line.specs.Numbers.{are_few_digits, count_in, is_number, number_in, number_in_word, number_or}
use Rattle.command_line.specs.Ranges.{AreInRange, IsFromOne, IsInRange}
use Rattle.command_line.specs.Words.{Command, GivenLimits, PlayWords, ReplayWords, SolveWords, are_apart, command_of, deorder, deorder_in, deorder_of, files_in, generate, generate_in, generate_of, goes_with, is_set, limits_in, migrate, migrate_of, mode_or, path_in, play, play_in, play_of, program_in, read_by, replay, replay_in, replay_of, report_in, solve, solve_in, solve_of}
use Rattle.lemmas.proofs.Options.{and_then_some, where_true}
use Rattle.std.proofs.lemmas.Option.{same_Some}

-- ---- numbers

-- from the least to the most
abbrev IsFromTo : (least most : ℕ) → ℕ → Type 0
IsFromTo least most n = (least ≤ n) × (n ≤ most)

digits_between : (least most : ℕ) (word : Text) → is_number least most word ≡ true
    → IsFromTo least most (digits_value 10 word)
unfolding is_number
digits_between least most word e =
    let some = nat_le least (digits_value 10 word) in
    let few = nat_le (digits_value 10 word) most in (
      leb-true least (digits_value 10 word) (second_so (are_few_digits word) some (first_so (are_few_digits word && some) few e)),
      leb-true (digits_value 10 word) most (second_so (are_few_digits word && some) few e),
    )

number_between : (least most : ℕ) (word : Text) (n : ℕ) → number_in_word least most word ≡ Some n → IsFromTo least most n
number_between least most word n e =
    let found = where_true (is_number least most word) (Some (digits_value 10 word)) n e in
    subst (IsFromTo least most) (same_Some (digits_value 10 word) n found.1) (digits_between least most word found.0)

or_between_from : (least most default : ℕ) → IsFromTo least most default → (word : Option Text) (n : ℕ)
    → number_or least most default word ≡ Some n
    → IsFromTo least most n
or_between_from least most default some None n e = subst (IsFromTo least most) (same_Some default n e) some
or_between_from least most default some (Some word) n e = number_between least most word n e

or_between : (most default : ℕ) → IsFromOne most default → (word : Option Text) (n : ℕ)
    → number_or 1 most default word ≡ Some n
    → IsFromOne most n
or_between = or_between_from 1

-- ---- what is read of rows

limits_between : (rows : List Row) (l : GivenLimits) → limits_in rows ≡ Some l
    → IsFromOne 100000 l.calls × IsFromOne 200000 l.states × IsFromOne 8 l.depth
limits_between rows l e =
    let calls = and_then_some _ (count_in (codes "calls") 100000 10000 rows) l e in
    let states = and_then_some _ (count_in (codes "states") 200000 100000 rows) l calls.2 in
    let depth = and_then_some _ (count_in (codes "depth") 8 3 rows) l states.2 in
    subst (λ (x : GivenLimits). IsFromOne 100000 x.calls × IsFromOne 200000 x.states × IsFromOne 8 x.depth) (same_Some _ l depth.2) (
      or_between 100000 10000 (omega arith, omega arith) (first_of (codes "calls") rows) calls.0 calls.1,
      or_between 200000 100000 (omega arith, omega arith) (first_of (codes "states") rows) states.0 states.1,
      or_between 8 3 (omega arith, omega arith) (first_of (codes "depth") rows) depth.0 depth.1,
    )

-- the cheapest plan is asked for in incremental mode alone
mode_from : (mode : Mode) (optimal : Bool) → goes_with mode optimal ≡ true → optimal ≡ true → mode ≡ Incremental
mode_from Incremental optimal e is = refl
mode_from Focused true e is = absurd (cc)
mode_from Focused false e is = absurd (cc)
mode_from Binding true e is = absurd (cc)
mode_from Binding false e is = absurd (cc)
mode_from Adaptive true e is = absurd (cc)
mode_from Adaptive false e is = absurd (cc)

-- where a map stands there is no program
alone_from : (path workers : Option Text) (program : List Text)
    → are_apart path workers program ≡ true
    → (p : Text) → path ≡ Some p → program ≡ []
alone_from None workers program e p is = absurd (cc)
alone_from (Some path) None [] e p is = refl
alone_from (Some path) None (word ∷ words) e p is = absurd (cc)
alone_from (Some path) (Some workers) program e p is = absurd (cc)

solve_between : (rows : List Row) (w : SolveWords) → solve_in rows ≡ Some w → AreInRange w
solve_between rows w e =
    let files = and_then_some _ (files_in rows) w e in
    let mode = and_then_some _ (mode_or (first_of (codes "algorithm") rows)) w files.2 in
    let limits = and_then_some _ (limits_in rows) w mode.2 in
    let workers = and_then_some _ (count_in (codes "workers") 16 1 rows) w limits.2 in
    let protocol = and_then_some _ (count_in (codes "protocol") 2 1 rows) w workers.2 in
    let restarts = and_then_some _ (number_in (codes "restarts") 0 1000 0 rows) w protocol.2 in
    let made : SolveWords = record {
      files = files.0;
      path = path_in rows;
      program = program_in rows;
      workers = workers.0;
      mode = mode.0;
      limits = limits.0;
      protocol = protocol.0;
      optimal = is_set (codes "optimal") rows;
      restarts = restarts.0;
    } in
    let apart = are_apart (path_in rows) (first_of (codes "workers") rows) (program_in rows) in
    let goes = goes_with mode.0 (is_set (codes "optimal") rows) in
    let found = where_true (apart && goes) (Some made) w restarts.2 in
    let few = limits_between rows limits.0 limits.1 in
    let ranges : AreInRange made = record {
      calls = few.0;
      states = few.1;
      depth = few.2;
      workers = or_between 16 1 (omega arith, omega arith) (first_of (codes "workers") rows) workers.0 workers.1;
      protocol = or_between 2 1 (omega arith, omega arith) (first_of (codes "protocol") rows) protocol.0 protocol.1;
      restarts = (or_between_from 0 1000 0 (omega arith, omega arith) (first_of (codes "restarts") rows) restarts.0
          restarts.1).1;
      alone = alone_from (path_in rows) (first_of (codes "workers") rows) (program_in rows)
          (first_so apart goes found.0);
      cheapest = mode_from mode.0 (is_set (codes "optimal") rows) (second_so apart goes found.0);
    } in
    subst AreInRange (same_Some made w found.1) ranges

report_between : (optimal : Bool) (rows : List Row) (w : ReplayWords) → report_in optimal rows ≡ Some w
    → IsFromOne 200000 w.states
report_between optimal rows w e =
    let files = and_then_some _ (files_in rows) w e in
    let report = and_then_some _ (first_of (codes "report") rows) w files.2 in
    let states = and_then_some _ (count_in (codes "states") 200000 100000 rows) w report.2 in
    subst (λ (x : ReplayWords). IsFromOne 200000 x.states) (same_Some _ w states.2)
    (or_between 200000 100000 (omega arith, omega arith) (first_of (codes "states") rows) states.0 states.1)

play_between : (rows : List Row) (w : PlayWords) → play_in rows ≡ Some w → IsFromOne 200000 w.states
play_between rows w e =
    let files = and_then_some _ (files_in rows) w e in
    let report = and_then_some _ (first_of (codes "report") rows) w files.2 in
    let grid = and_then_some _ (first_of (codes "grid") rows) w report.2 in
    let states = and_then_some _ (count_in (codes "states") 200000 100000 rows) w grid.2 in
    subst (λ (x : PlayWords). IsFromOne 200000 x.states) (same_Some _ w states.2)
    (or_between 200000 100000 (omega arith, omega arith) (first_of (codes "states") rows) states.0 states.1)

generate_between : (rows : List Row) (n : ℕ) → generate_in rows ≡ Some n → IsFromOne 12 n
generate_between rows n e =
    let text = and_then_some _ (first_of (codes "number") rows) n e in
    number_between 1 12 text.0 n text.2

-- ---- commands

read_some : {X : Type 0} (app : App) (read : List Row → Option X) (words : List Text) (x : X)
    → read_by app read words ≡ Some x → read (matches_of app words) ≡ Some x
unfolding read_by
read_some {X} app read words x e = (where_true (is_taken app words) (read (matches_of app words)) x e).1

solve_found : (words : List Text) (c : Command) → option_map solve (solve_of words) ≡ Some c
    → IsInRange c
solve_found words c e =
    let found = map_some solve (solve_of words) c e in
    let read = read_some solve_app solve_in words found.0 found.1 in
    subst IsInRange found.2 (solve_between (matches_of solve_app words) found.0 read)

replay_found : (words : List Text) (c : Command) → option_map replay (replay_of words) ≡ Some c
    → IsInRange c
replay_found words c e =
    let found = map_some replay (replay_of words) c e in
    let read = read_some replay_app replay_in words found.0 found.1 in
    let rows = matches_of replay_app words in
    subst IsInRange found.2 (report_between (is_set (codes "optimal") rows) rows found.0 read)

generate_found : (words : List Text) (c : Command)
    → option_map generate (generate_of words) ≡ Some c → IsInRange c
generate_found words c e =
    let found = map_some generate (generate_of words) c e in
    let read = read_some generate_app generate_in words found.0 found.1 in
    subst IsInRange found.2 (generate_between (matches_of generate_app words) found.0 read)

migrate_found : (words : List Text) (c : Command)
    → option_map migrate (migrate_of words) ≡ Some c → IsInRange c
migrate_found words c e =
    let found = map_some migrate (migrate_of words) c e in
    subst IsInRange found.2 tt

deorder_found : (words : List Text) (c : Command) → option_map deorder (deorder_of words) ≡ Some c
    → IsInRange c
deorder_found words c e =
    let found = map_some deorder (deorder_of words) c e in
    let read = read_some deorder_app deorder_in words found.0 found.1 in
    subst IsInRange found.2 (report_between false (matches_of deorder_app words) found.0 read)

play_found : (words : List Text) (c : Command) → option_map play (play_of words) ≡ Some c
    → IsInRange c
play_found words c e =
    let found = map_some play (play_of words) c e in
    let read = read_some play_app play_in words found.0 found.1 in
    subst IsInRange found.2 (play_between (matches_of play_app words) found.0 read)

pub in_range : (words : List Text) (c : Command) → command_of words ≡ Some c → IsInRange c
unfolding command_of
in_range [] c e = absurd (cc)
in_range (name ∷ words) c e =
    by (bytes_eq name (codes "solve")) (bytes_eq name (codes "replay")) (bytes_eq name (codes "generate"))
    (bytes_eq name (codes "migrate")) (bytes_eq name (codes "deorder")) (bytes_eq name (codes "play")) e
  where
    by : (solves replays generates migrates deorders plays : Bool)
        → (if solves then option_map solve (solve_of (name ∷ words))
        else if replays then option_map replay (replay_of (name ∷ words))
        else if generates then option_map generate (generate_of (name ∷ words))
        else if migrates then option_map migrate (migrate_of (name ∷ words))
        else if deorders then option_map deorder (deorder_of (name ∷ words))
        else if plays then option_map play (play_of (name ∷ words)) else None) ≡ Some c → IsInRange c
    by true replays generates migrates deorders plays said = solve_found (name ∷ words) c said
    by false true generates migrates deorders plays said = replay_found (name ∷ words) c said
    by false false true migrates deorders plays said = generate_found (name ∷ words) c said
    by false false false true deorders plays said = migrate_found (name ∷ words) c said
    by false false false false true plays said = deorder_found (name ∷ words) c said
    by false false false false false true said = play_found (name ∷ words) c said
    by false false false false false false said = absurd (cc)
