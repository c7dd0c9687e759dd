-- How a run stands whose files were read, or not.
use Rattle.std.proofs.Common.{◌≡◌, ℕ, ◌≤◌, List, [], ◌∷◌, ◌++◌, map, refl, sym, subst, ap, ◌∙◌, ◌⊎◌, inl, inr, Option, None, Some, Ok}
use Rattle.std.proofs.lemmas.List.{map-append}
use Rattle.command_line.specs.Words.{SolveWords, TaskFiles, solve}
use Rattle.io_world.proofs.TalksLemmas.{extends_more}
use Rattle.io_world.specs.FileMap.{AskedPath, FileMap}
use Rattle.io_world.specs.Faults.{Extends}
use Rattle.round_run.specs.declared.fault.RunFault.TheVariants as fault
use Rattle.stream_map.specs.Children.{grid_file, plain}
use Rattle.stream_map.specs.Faults.{Refused}
use Rattle.stream_map.specs.Form.{all_stream_names, words_form}
use Rattle.stream_map.specs.declared.fault.MapFault.{MapFault}
use Rattle.stream_map.specs.declared.fault.MapFault.TheVariants as maps
use Rattle.task_model.specs.declared.task.Task.{Task}
use Rattle.transcript_model.specs.declared.head.Pool.{Pool}
use Rattle.command_files.proofs.InputsLemmas.{ends_behind, looks}
use Rattle.command_files.specs.Inputs.{AreAccepted, AsksAllOf, EndsAtFile, EndsAtPools, EndsFirst, IsFileAnswer, IsTaskOf, MayEnd, SolvesNothing, ask, file_at, files_named, reads, stop_for_map, task_files}
use Rattle.command_files.specs.Files.{AreBytes, FileWanted, file_of}
use Rattle.run_command.specs.Heads.{AreServed}
use Rattle.command_files.specs.Pools.{HaveText, MeansBy, MeansPools}
use Rattle.command_files.specs.Outside.{FilesSeen}
use Rattle.command_files.specs.declared.stop.FileRole.TheVariants as role
use Rattle.command_files.specs.declared.stop.Stop.{Stop}
use Rattle.command_files.specs.declared.stop.Stop.TheVariants as stop
use Rattle.command_files.specs.declared.stop.Text.TheVariants.{Domain, Problem, Streams}
use Rattle.command_files.proofs.MapsLemmas.{which_stop}

-- ---- the same paths

pub spelled_in : {told : Option FileMap} {paths others : TaskFiles} {task : Task} → paths ≡ others
    → IsTaskOf told paths task → IsTaskOf told others task
spelled_in {told} {task = task} same t = subst (λ f. IsTaskOf told f task) same t

pub read_in : (old new : Option (List AskedPath)) {paths others : TaskFiles} → paths ≡ others
    → Extends old new (reads (task_files paths)) → Extends old new (reads (task_files others))
read_in old new same r = subst (λ f. Extends old new (reads (task_files f))) same r

pub ends_in : {files : FilesSeen} {paths others : TaskFiles} {why : Stop} → paths ≡ others
    → (more : List FileWanted) → EndsAtFile files (task_files paths ++ more) why
    → EndsAtFile files (task_files others ++ more) why
ends_in {files} {why = why} same more e =
    subst (λ f. EndsAtFile files (task_files f ++ more) why) same e

-- ---- pools

-- the pools that were read are those that the words mean
pub pools_served : (told one two : Option FileMap) → one ≡ told → two ≡ one → (w : SolveWords) (task : Task)
    → (meant pools : List Pool) → MeansPools one w task meant
    → HaveText (grid_file (map plain meant)) two meant pools → AreServed told w task pools
pools_served told one two same next w task meant pools means text = record {
  meant = meant;
  means = subst (λ o. MeansPools o w task meant) same means;
  text = subst (λ o. HaveText (grid_file (map plain meant)) o meant pools) (next ∙ same) text;
}

pub means_in : {told later : Option FileMap} (w : SolveWords) (task : Task) (pools : List Pool) → later ≡ told
    → MeansPools later w task pools → MeansPools told w task pools
means_in w task pools same m = subst (λ o. MeansPools o w task pools) same m

-- files that were read behind others
pub reads_more : (old mid new : Option (List AskedPath)) (xs ys : List FileWanted) → Extends old mid (reads xs)
    → Extends mid new (reads ys) → Extends old new (reads (xs ++ ys))
reads_more old mid new xs ys first second =
    subst (Extends old new) (sym (map-append (ask (Ok tt)) xs ys)) (extends_more old mid new (reads xs) (reads ys) first second)

module _ (asked : SolveWords) where
  -- the run ends at one of the files that the words name
  pub ends_named : (files : FilesSeen) (why : Stop) → EndsAtFile files (files_named (solve asked)) why
      → SolvesNothing asked files why
  ends_named files why ends = inl (record {
    all = files_named (solve asked);
    are = inl refl;
    stopped = ends;
  })

  module _ (task : Task) (told : Option FileMap) (first mid last : ℕ) (earlier : first ≤ mid) (old middle new : Option (List AskedPath))
      (t : IsTaskOf told asked.files task) (read : Extends old middle (reads (task_files asked.files))) where
    abbrev texts : List (List ℕ)
    texts = t.domain ∷ t.problem ∷ t.streams ∷ []

    abbrev here : FilesSeen
    here = looks told first last old new

    -- the program makes no pool, or memory is wanting
    no_pool : (why : Stop) (f : MapFault) → asked.path ≡ None → why ≡ stop_for_map f
        → Refused (all_stream_names task) (words_form task asked.program asked.workers) f
        → Extends middle new [] → SolvesNothing asked here why
    no_pool why f none is r nothing = by (which_stop f)
      where
        wanting : why ≡ stop.Run fault.Memory → SolvesNothing asked here why
        wanting memory = ends_named here why (record {
          before = file_of (role.Text Domain) asked.files.domain ∷ file_of (role.Text Problem) asked.files.problem ∷ [];
          wanted = file_of (role.Text Streams) asked.files.streams;
          later = file_at role.Map asked.path;
          order = refl;
          texts = t.domain ∷ t.problem ∷ [];
          are = (t.are.0, (t.are.1.0, tt));
          accepted = (task.domain, task.problem, t.spelled.domain, t.spelled.problem);
          cause = subst (λ w. MayEnd here (t.domain ∷ t.problem ∷ []) (file_of (role.Text Streams) asked.files.streams) w)
              (sym memory) tt;
          answer = Ok tt;
          answered = subst (λ w. IsFileAnswer w (Ok tt)) (sym memory) tt;
          asked = extends_more old middle new (reads (task_files asked.files)) [] read nothing;
        })

        by : (stop_for_map f ≡ stop.Run fault.Memory) ⊎ ((stop_for_map f ≡ stop.Map f) × ¬ (f ≡ maps.Memory))
            → SolvesNothing asked here why
        by (inl memory) = wanting (is ∙ memory)
        by (inr (told_so, certain)) = inr (record {
          no_map = none;
          task = task;
          spelled = t;
          fault = f;
          is = is ∙ told_so;
          certain = certain;
          refused = r;
          asked_for = extends_more old middle new (reads (task_files asked.files)) [] read nothing;
        })

    -- the pools that the words mean weren't read
    pub ends_at_pools : (later : Option FileMap) → later ≡ told → (why : Stop)
        → EndsAtPools asked.path (looks later mid last middle new) texts asked task why
        → SolvesNothing asked here why
    ends_at_pools later same why ends = by asked.path refl ends
      where
        by : (path : Option (List ℕ)) → asked.path ≡ path
            → EndsAtPools path (looks later mid last middle new) texts asked task why
            → SolvesNothing asked here why
        by None none m = no_pool why m.fault none m.is m.refused m.asked
        by (Some path) is at = ends_named here why
            (subst (λ p. EndsAtFile here (task_files asked.files ++ file_at role.Map p) why) (sym is)
            (ends_behind told first mid last earlier old middle new later same (task_files asked.files) read texts t.are
            (task, t.spelled) (file_of role.Map path) [] why at))

  module _ (task : Task) (pools : List Pool) (told : Option FileMap) (first mid last : ℕ) (earlier : first ≤ mid)
      (old middle new : Option (List AskedPath)) (t : IsTaskOf told asked.files task) (means : MeansPools told asked task pools)
      (read : Extends old middle (reads (files_named (solve asked)))) where
    -- the texts of the files that the words name
    record AreRead (files : List FileWanted) : Type 0 where
      texts : List (List ℕ)
      are : AreBytes told files texts
      accepted : AreAccepted files texts

    are_read : (path : Option (List ℕ)) → MeansBy path told asked task pools
        → AreRead (task_files asked.files ++ file_at role.Map path)
    are_read None m = record { texts = t.domain ∷ t.problem ∷ t.streams ∷ []; are = t.are; accepted = (task, t.spelled) }
    are_read (Some path) m = record {
      texts = t.domain ∷ t.problem ∷ t.streams ∷ m.bytes ∷ [];
      are = (t.are.0, (t.are.1.0, (t.are.1.1.0, (m.has, tt))));
      accepted = (task, t.spelled, (pools, m.so));
    }

    -- the grid's file wasn't read, or holds no grid
    pub ends_at_grid : (later : Option FileMap) → later ≡ told → (why : Stop)
        → ((texts : List (List ℕ)) → EndsFirst (looks later mid last middle new) texts
        (file_at role.Grid (grid_file (map plain pools))) why)
        → SolvesNothing asked (looks told first last old new) why
    ends_at_grid later same why ends = by (grid_file (map plain pools)) refl ends
      where
        by : (path : Option (List ℕ)) → grid_file (map plain pools) ≡ path
            → ((texts : List (List ℕ)) → EndsFirst (looks later mid last middle new) texts (file_at role.Grid path) why)
            → SolvesNothing asked (looks told first last old new) why
        by None none at = absurd (at [])
        by (Some path) is at =
            let r = are_read asked.path means in
            inl (record {
              all = files_named (solve asked) ++ file_of role.Grid path ∷ [];
              are = inr (task, pools, t, means, ap (λ p. files_named (solve asked) ++ file_at role.Grid p) (sym is));
              stopped = ends_behind told first mid last earlier old middle new later same
                  (files_named (solve asked)) read r.texts r.are r.accepted (file_of role.Grid path) [] why (at r.texts);
            })

    -- all files were asked for
    pub asks_all : Extends middle new (reads (file_at role.Grid (grid_file (map plain pools))))
        → AsksAllOf (solve asked) (looks told first last old new)
    asks_all more = record {
      all = files_named (solve asked) ++ file_at role.Grid (grid_file (map plain pools));
      are = (task, pools, t, means, refl);
      asked = reads_more old middle new (files_named (solve asked)) (file_at role.Grid (grid_file (map plain pools))) read more;
    }
