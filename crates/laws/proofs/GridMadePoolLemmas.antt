-- The pool of a run of `generate`: child 16 alone, for all streams.
use Rattle.std.proofs.Common.{◌≡◌, ℕ, ◌<◌, ◌==◌, Bool, true, false, cond, List, [], ◌∷◌, length, map, None, Option, Some, refl, sym, ap, ◌∙◌, arith}
use Rattle.std.proofs.lemmas.Bool.{ne_eqb}
use Rattle.std.proofs.lemmas.Option.{slice_get_within}
use Rattle.std.proofs.lemmas.Simd.{map-map}
use Rattle.command_line.specs.Words.{command_of, generate}
use Rattle.laws.proofs.GridMadeLemmas.{headed_as, made_run}
use Rattle.io_world.specs.FileMap.{FileMap}
use Rattle.command_files.specs.Pools.{HaveText}
use Rattle.run_command.specs.Runs.{ProgramRun}
use Rattle.run_command.specs.Works.{made_files, made_words}
use Rattle.pools.specs.Pools.{Workers, workers_of}
use Rattle.round_run.specs.Dialogue.{workers_in}
use Rattle.stream_map.specs.Accepted.{Accepted}
use Rattle.stream_map.specs.Children.{PlainPool, grid_file, numbered_pools, plain, with_second, with_text}
use Rattle.stream_map.specs.Faults.{stream_places}
use Rattle.stream_map.specs.Form.{all_stream_names, words_form}
use Rattle.stream_map.specs.Spelled.{Spelled, begins_grid, is_grid_word}
use Rattle.task_model.specs.declared.task.Task.{Task}
use Rattle.transcript_model.specs.declared.head.Pool.{Pool}

-- what is kept of a pool
abbrev kept : PlainPool → Workers
kept p = record { first = p.first; workers = p.workers; streams = p.streams }

kept_are : (pools : List Pool) → map workers_of pools ≡ map kept (map plain pools)
kept_are pools = sym (map-map kept plain pools)

-- ---- the grid's text, of which nothing is kept

text_by : (text : List ℕ) (b : Bool) (pool : PlainPool) (pools : List PlainPool) → map kept (with_text text pools) ≡ map kept pools
    → map kept (cond b ((record pool { words = with_second text pool.words }) ∷ pools) (pool ∷ with_text text pools))
    ≡ kept pool ∷ map kept pools
text_by text true pool pools rest = refl
text_by text false pool pools rest = ap (λ ws. kept pool ∷ ws) rest

text_keeps : (text : List ℕ) (pools : List PlainPool) → map kept (with_text text pools) ≡ map kept pools
text_keeps text [] = refl
text_keeps text (pool ∷ pools) = text_by text (begins_grid pool.words) pool pools (text_keeps text pools)

have_text : (path : Option (List ℕ)) (told : Option FileMap) (meant pools : List Pool) → HaveText path told meant pools
    → map kept (map plain pools) ≡ map kept (map plain meant)
have_text None told meant pools same = ap (λ ps. map kept (map plain ps)) same
have_text (Some path) told meant pools has = ap (map kept) has.so.placed ∙ text_keeps has.bytes (map plain meant)

-- ---- the pools that the words mean

-- the pool of the words of a made task
abbrev made_pool : Task → Spelled
made_pool task = record { run = made_words.program; workers = made_words.workers; streams = all_stream_names task }

abbrev pub made_workers : Task → Workers
made_workers task = record { first = 16; workers = 1; streams = stream_places (all_stream_names task) (made_pool task) }

one_form : (names : List (List ℕ)) (b : Bool) (s : Spelled) (spelled : List Spelled) → begins_grid s.run ≡ true → b ≡ false
    → cond b (Some []) (Some (s ∷ [])) ≡ Some spelled
    → map kept (numbered_pools names 0 spelled) ≡ (record { first = 16; workers = s.workers; streams = stream_places names s }) ∷ []
one_form names true s spelled grid some e = absurd (cc)
one_form names false s spelled grid some e =
    let same : spelled ≡ s ∷ [] = cc in
    let first : cond (begins_grid s.run) 16 0 ≡ 16 = rw grid refl in
    ap (λ ss. map kept (numbered_pools names 0 ss)) same
    ∙ ap (λ n. (record { first = n; workers = s.workers; streams = stream_places names s }) ∷ []) first

made_form : (task : Task) (pools : List Pool) → 0 < length task.streams
    → Accepted task (words_form task made_words.program made_words.workers) pools → map kept (map plain pools) ≡ made_workers task ∷ []
unfolding is_grid_word
made_form task pools some accepted =
    let none : (length task.streams == 0) ≡ false = ne_eqb (length task.streams) 0 (λ is. omega (arith, is, some)) in
    ap (map kept) accepted.pools_are
    ∙ one_form (all_stream_names task) (length task.streams == 0) (made_pool task) accepted.spelled refl none accepted.form_is

-- ---- the pools of a run

module _ {words : List (List ℕ)} {told : Option FileMap} (run : ProgramRun words told) (n : ℕ)
    (meant : command_of words ≡ Some (generate n)) where
  pub workers_are : workers_in run.head ≡ made_workers run.task ∷ []
  workers_are =
      let pools = (headed_as run n meant).pools in
      let place = (made_run run n meant).streams.place in
      kept_are run.head.pools
      ∙ have_text (grid_file (map plain pools.meant)) (Some (made_files n)) pools.meant run.head.pools pools.text
      ∙ made_form run.task pools.meant
      (omega (arith, slice_get_within run.task.streams place.place place.stream place.at)) pools.means
