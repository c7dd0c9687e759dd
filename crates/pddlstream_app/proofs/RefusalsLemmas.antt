-- What isn't refused, and what words and files mean.
use Rattle.std.proofs.Common.{◌≡◌, ℕ, ◌<◌, arith, List, [], ◌∷◌, ◌++◌, length, map, Option, None, Some, refl, sym, subst, ap, ◌∙◌, inl, inr}
use Rattle.io_world.specs.FileMap.{FileMap, HasMore}
use Rattle.task_reader.proofs.SpelledLemmas.{one_task, task_not_refused}
use Rattle.task_model.specs.declared.task.Task.{Task}
use Rattle.task_reader.specs.Tasks.{SpellsTask, RefusesSecond, RefusesThird}
use Rattle.task_reader.specs.Texts.{RefusesDomain}
use Rattle.task_reader.specs.declared.refusal.FaultKind.{FaultKind}
use Rattle.command_files.specs.Files.{FileWanted, HasBytes, file_of, most_of}
use Rattle.command_files.specs.Pools.{MeansBy}
use Rattle.command_files.specs.Inputs.{IsInputRefused, IsRefusedMap, IsTaskOf, IsTooLong}
use Rattle.command_line.specs.Words.{SolveWords, TaskFiles}
use Rattle.grid_text.specs.Files.{BlamesGridText, IsGridOf}
use Rattle.grid_text.specs.Grids.{GridFile}
use Rattle.grid_text.specs.declared.fault.GridFault.TheVariants as grid
use Rattle.grid_text.specs.declared.fault.GridKind.{GridKind}
use Rattle.serde_json.specs.Data.{Data}
use Rattle.stream_map.specs.Accepted.{Accepted, AcceptedMap, IsJson, RefusedMap, RefusesMap}
use Rattle.stream_map.specs.Children.{numbered_pools, plain}
use Rattle.stream_map.specs.Faults.{Refused, map_fault}
use Rattle.stream_map.specs.Form.{map_in_data, all_stream_names, words_form}
use Rattle.stream_map.specs.Spelled.{Spelled}
use Rattle.stream_map.specs.declared.fault.MapFault.{MapFault}
use Rattle.stream_map.specs.declared.fault.MapFault.TheVariants as maps
use Rattle.transcript_model.specs.declared.head.Pool.{Pool}
use Rattle.command_files.specs.declared.stop.FileRole.TheVariants as role
use Rattle.command_files.specs.declared.stop.Text.{Text}
use Rattle.command_files.specs.declared.stop.Text.TheVariants.{Domain, Problem, Streams}

-- ---- texts

module _ (files : FileMap) where
  -- a file that is told has one text
  pub one_text : (wanted : FileWanted) (a b : List ℕ) → HasBytes (Some files) wanted a
      → HasBytes (Some files) wanted b → b ≡ a
  one_text wanted a b x y = let both : Some b ≡ Some a = sym y.held ∙ x.held in cc

  -- and none is too long
  pub not_long : (wanted : FileWanted) (bytes : List ℕ) → HasBytes (Some files) wanted bytes
      → IsTooLong (Some files) wanted → ⊥
  not_long wanted bytes has long =
      let more : most_of wanted.role < length bytes = subst (λ o. HasMore o (most_of wanted.role)) has.held long in
      let short = has.short in
      absurd (omega (arith, more, short))

  -- the files spell one task
  pub one_spelled : (paths : TaskFiles) (t u : Task) → IsTaskOf (Some files) paths t
      → IsTaskOf (Some files) paths u → u ≡ t
  one_spelled paths t u x y =
      let domain = one_text _ x.domain y.domain x.are.0 y.are.0 in
      let problem = one_text _ x.problem y.problem x.are.1.0 y.are.1.0 in
      let streams = one_text _ x.streams y.streams x.are.1.1.0 y.are.1.1.0 in
      one_task x.domain x.problem x.streams u t
      (subst (λ b. SpellsTask x.domain x.problem b u) streams
      (subst (λ b. SpellsTask x.domain b y.streams u) problem
      (subst (λ b. SpellsTask b y.problem y.streams u) domain y.spelled)))
      x.spelled

module _ (d p s : List ℕ) (more : List (List ℕ)) (task : Task) (spelled : SpellsTask d p s task) where
  -- none of a task's texts is refused
  pub none_refused : (texts : List (List ℕ)) (text : List ℕ) (rest : List (List ℕ)) (which : Text) (kind : FaultKind) (place : ℕ)
      → d ∷ p ∷ s ∷ more ≡ texts ++ text ∷ rest → IsInputRefused texts which text kind place → ⊥
  none_refused [] text rest Domain kind place is r =
      let same : text ≡ d = cc in
      (task_not_refused d p s task spelled).first kind place (subst (λ b. RefusesDomain b kind place) same r)
  none_refused (a ∷ []) text rest Problem kind place is r =
      let first : a ≡ d = cc in
      let same : text ≡ p = cc in
      (task_not_refused d p s task spelled).second kind place
      (subst (λ b. RefusesSecond b p kind place) first (subst (λ b. RefusesSecond a b kind place) same r))
  none_refused (a ∷ b ∷ []) text rest Streams kind place is r =
      let first : a ≡ d = cc in
      let second : b ≡ p = cc in
      let same : text ≡ s = cc in
      (task_not_refused d p s task spelled).third kind place
      (subst (λ x. RefusesThird x p s kind place) first
      (subst (λ x. RefusesThird a x s kind place) second (subst (λ x. RefusesThird a b x kind place) same r)))
  none_refused [] text rest Problem kind place is r = absurd r
  none_refused [] text rest Streams kind place is r = absurd r
  none_refused (a ∷ []) text rest Domain kind place is r = absurd r
  none_refused (a ∷ []) text rest Streams kind place is r = absurd r
  none_refused (a ∷ b ∷ []) text rest Domain kind place is r = absurd r
  none_refused (a ∷ b ∷ []) text rest Problem kind place is r = absurd r
  none_refused (a ∷ b ∷ c ∷ texts) text rest Domain kind place is r = absurd r
  none_refused (a ∷ b ∷ c ∷ texts) text rest Problem kind place is r = absurd r
  none_refused (a ∷ b ∷ c ∷ texts) text rest Streams kind place is r = absurd r

  -- the texts before a map spell the task
  pub before_map : (texts : List (List ℕ)) (text : List ℕ) (rest : List (List ℕ)) (why : MapFault)
      → d ∷ p ∷ s ∷ more ≡ texts ++ text ∷ rest → IsRefusedMap texts text why
      → ¬ (why ≡ maps.Memory) × RefusesMap task text why
  before_map (a ∷ b ∷ c ∷ []) text rest why is r =
      let first : a ≡ d = cc in
      let second : b ≡ p = cc in
      let third : c ≡ s = cc in
      let same : r.0 ≡ task =
      one_task d p s r.0 task
      (subst (λ x. SpellsTask x p s r.0) first (subst (λ x. SpellsTask a x s r.0) second (subst (λ x. SpellsTask a b x r.0) third r.1))) spelled
      in
      (r.2, subst (λ t. RefusesMap t text why) same r.3)
  before_map [] text rest why is r = absurd r
  before_map (a ∷ []) text rest why is r = absurd r
  before_map (a ∷ b ∷ []) text rest why is r = absurd r
  before_map (a ∷ b ∷ c ∷ e ∷ texts) text rest why is r = absurd r

-- ---- maps and grids

-- pools in which there is no fault aren't refused
pub form_not_refused : (names : List (List ℕ)) (form : Option (List Spelled)) (spelled : List Spelled) (why : MapFault)
    → form ≡ Some spelled → map_fault names spelled ≡ None → ¬ (why ≡ maps.Memory) → Refused names form why → ⊥
form_not_refused names form spelled why is right certain r =
    by why certain (subst (λ f. Refused names f why) is r)
  where
    none : (f : MapFault) → map_fault names spelled ≡ Some f → ⊥
    none f e = let both = sym right ∙ e in absurd (cc)

    by : (f : MapFault) → ¬ (f ≡ maps.Memory) → Refused names (Some spelled) f → ⊥
    by maps.Json c e = none maps.Json e
    by maps.Shape c e = none maps.Shape e
    by maps.Workers c e = none maps.Workers e
    by maps.Unknown c e = none maps.Unknown e
    by maps.Doubled c e = none maps.Doubled e
    by maps.Unserved c e = none maps.Unserved e
    by maps.Memory c e = c refl

-- bytes are one value
one_value : (bytes : List ℕ) (a b : Data) → IsJson bytes a → IsJson bytes b → b ≡ a
one_value bytes a b x y = let both : Some b ≡ Some a = sym y.value ∙ x.value in cc

-- a map that is accepted isn't refused
pub map_not_refused : (task : Task) (text : List ℕ) (pools : List Pool) (why : MapFault) → AcceptedMap task text pools
    → ¬ (why ≡ maps.Memory) → RefusesMap task text why → ⊥
map_not_refused task text pools why a certain r = by why certain r
  where
    none : (f : MapFault) → ¬ (f ≡ maps.Memory) → RefusedMap task text f → ⊥
    none f c x =
        let same = one_value text a.data_of x.data_of a.json x.json in
        form_not_refused (all_stream_names task) (map_in_data a.data_of) a.accepted.spelled f a.accepted.form_is a.accepted.right c
        (subst (λ v. Refused (all_stream_names task) (map_in_data v) f) same x.refused)

    by : (f : MapFault) → ¬ (f ≡ maps.Memory) → RefusesMap task text f → ⊥
    by maps.Json c x = let both = sym (x a.json.utf8) ∙ a.json.value in absurd (cc)
    by maps.Shape c x = none maps.Shape c x
    by maps.Workers c x = none maps.Workers c x
    by maps.Unknown c x = none maps.Unknown c x
    by maps.Doubled c x = none maps.Doubled c x
    by maps.Unserved c x = none maps.Unserved c x
    by maps.Memory c x = c refl

-- a text that is a grid has no fault
pub grid_not_blamed : (text : List ℕ) (g : GridFile) (line : ℕ) (kind : GridKind) → IsGridOf text g
    → BlamesGridText text (grid.At line kind) → ⊥
grid_not_blamed text g line kind is (inl b) = let both = sym is.some ∙ b.all in absurd (cc)
grid_not_blamed text g line kind is (inr f) =
    let both = sym (is.right f.place f.within) ∙ f.here in absurd (cc)

-- one form spells pools of one kind
one_form : (task : Task) (form : Option (List Spelled)) (a b : List Pool) → Accepted task form a
    → Accepted task form b → map plain b ≡ map plain a
one_form task form a b x y =
    let both : Some y.spelled ≡ Some x.spelled = sym y.form_is ∙ x.form_is in
    let same : y.spelled ≡ x.spelled = cc in
    y.pools_are ∙ ap (numbered_pools (all_stream_names task) 0) same ∙ sym x.pools_are

-- words and files mean pools of one kind
pub one_meaning : (files : FileMap) (w : SolveWords) (task : Task) (path : Option (List ℕ)) (a b : List Pool)
    → MeansBy path (Some files) w task a → MeansBy path (Some files) w task b → map plain b ≡ map plain a
one_meaning files w task None a b x y = one_form task (words_form task w.program w.workers) a b x y
one_meaning files w task (Some path) a b x y =
    let bytes = one_text files (file_of role.Map path) x.bytes y.bytes x.has y.has in
    let so = subst (λ t. AcceptedMap task t b) bytes y.so in
    let same = one_value x.bytes x.so.data_of so.data_of x.so.json so.json in
    one_form task (map_in_data x.so.data_of) a b x.so.accepted (subst (λ v. Accepted task (map_in_data v) b) same so.accepted)
