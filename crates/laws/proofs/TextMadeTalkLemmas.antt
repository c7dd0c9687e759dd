-- Runs of `generate` of whose child the same talk is told.
use Rattle.std.proofs.Common.{◌≡◌, ℕ, List, [], ◌∷◌, map, Option, Some, refl, sym, ap, ◌∙◌}
use Rattle.std.proofs.lemmas.Simd.{map-map}
use Rattle.command_line.specs.Words.{command_of, generate}
use Rattle.laws.proofs.GridMadeLemmas.{headed_as, spelled_as}
use Rattle.laws.proofs.GridMadePoolLemmas.{made_workers, workers_are}
use Rattle.io_world.specs.FileMap.{FileMap}
use Rattle.run_command.specs.Runs.{ProgramRun}
use Rattle.run_command.specs.Works.{made_files, made_words}
use Rattle.pools.specs.Pools.{Workers, share_of_workers, workers_of}
use Rattle.laws.proofs.SolvedLemmas.{same_task}
use Rattle.round_run.specs.Dialogue.{workers_in}
use Rattle.laws.proofs.TextTalkLemmas.{one_talk}
use Rattle.laws.specs.Spelled.{AreAlike, AsksOneChild, OneTalkOneMadeRun}
use Rattle.transcript_model.specs.Rounds as rounds
use Rattle.transcript_model.specs.declared.head.Pool.{Pool}

-- the one of these pools, of which this is kept
record IsOnlyPool (pools : List Pool) (kept : Workers) : Type 0 where
  pool : Pool
  are : pools ≡ pool ∷ []
  is : workers_of pool ≡ kept

one_pool : (pools : List Pool) (kept : Workers) → map workers_of pools ≡ kept ∷ [] → IsOnlyPool pools kept
one_pool [] kept are = absurd (cc)
one_pool (p ∷ []) kept are = record { pool = p; are = refl; is = cc }
one_pool (p ∷ q ∷ pools) kept are = absurd (cc)

module _ (n : ℕ) {words : List (List ℕ)} {told : Option FileMap} (run : ProgramRun words told)
    (meant : command_of words ≡ Some (generate n)) where
  asks_one : AsksOneChild run.head 16
  asks_one =
      let p = one_pool run.head.pools (made_workers run.task) (workers_are run n meant) in
      record {
        mode = (headed_as run n meant).mode;
        pool = p.pool;
        pools = p.are;
        alone = ap (λ (w : Workers). w.workers) p.is;
        first = ap (λ (w : Workers). w.first) p.is;
      }

  module _ {others : List (List ℕ)} {heard : Option FileMap} (other : ProgramRun others heard)
      (also : command_of others ≡ Some (generate n)) where
    task_is : run.task ≡ other.task
    task_is =
        same_task (made_files n) (made_files n) made_words.files made_words.files other.task run.task
        (record { domain = refl; problem = refl; streams = refl }) (spelled_as other n also) (spelled_as run n meant)

    alike : AreAlike run.head other.head
    alike =
        let a = headed_as run n meant in
        let b = headed_as other n also in
        let same : workers_in run.head ≡ workers_in other.head =
        workers_are run n meant ∙ ap (λ t. made_workers t ∷ []) task_is ∙ sym (workers_are other n also) in
        let shares : map rounds.share_of run.head.pools ≡ map rounds.share_of other.head.pools =
        sym (map-map share_of_workers workers_of run.head.pools) ∙ ap (map share_of_workers) same ∙ map-map share_of_workers workers_of other.head.pools in
        record {
          limits = λ i. record {
            version = (a.version ∙ sym b.version) i;
            mode = (a.mode ∙ sym b.mode) i;
            calls = (a.calls ∙ sym b.calls) i;
            states = (a.states ∙ sym b.states) i;
            depth = (a.depth ∙ sym b.depth) i;
            pools = shares i;
          };
          optimal = a.optimal ∙ sym b.optimal;
          workers = same;
        }

pub one_made_talk : OneTalkOneMadeRun
one_made_talk words others outside after status end text line n talk meant also first second told again =
    one_talk words others outside after status end text line 16 talk first second
    (task_is n first.run meant second.run also) (alike n first.run meant second.run also) (asks_one n first.run meant) told again
