-- How a run stands whose map or grid was read, or not.
use Rattle.std.proofs.Common.{◌≡◌, ℕ, List, [], ◌∷◌, refl, sym, subst, ◌⊎◌, inl, inr, Option, None, Some, Result, Ok, Err, IfErr, IsUtf8}
use Rattle.grid_text.specs.declared.fault.GridFault.TheVariants as grid
use Rattle.round_run.specs.declared.fault.RunFault.TheVariants as fault
use Rattle.stream_map.specs.declared.fault.MapFault.TheVariants as maps
use Rattle.command_files.specs.declared.stop.FileRole.TheVariants as role
use Rattle.command_files.specs.declared.stop.Stop.TheVariants as stop
use Rattle.std.proofs.lemmas.List.{append-nil}
use Rattle.std.proofs.lemmas.Str.{IsUtf8-from_ascii}
use Rattle.io_world.specs.FileMap.{AskedPath}
use Rattle.grid_text.specs.Files.{BlamesGridText, IsGridOf}
use Rattle.command_files.specs.Inputs.{EndsAtPools, EndsHere, IsFileAnswer, MayEnd, ask, stop_for_grid, stop_for_map}
use Rattle.io_world.specs.Faults.{Extends}
use Rattle.command_files.specs.Outside.{FilesSeen}
use Rattle.grid_text.specs.declared.fault.GridFault.{GridFault}
use Rattle.grid_text.specs.Grids.{GridFile}
use Rattle.command_files.specs.Files.{HasBytes, file_of}
use Rattle.stream_map.specs.declared.fault.MapFault.{MapFault}
use Rattle.stream_map.specs.Faults.{Refused}
use Rattle.stream_map.specs.Accepted.{RefusesMap}
use Rattle.command_line.specs.Words.{SolveWords}
use Rattle.task_reader.specs.Tasks.{SpellsTask}
use Rattle.command_files.specs.declared.stop.Stop.{Stop}
use Rattle.task_model.specs.declared.task.Task.{Task}
use Rattle.stream_map.specs.Form.{all_stream_names, words_form}
use Rattle.grid_text.proofs.FilesLemmas.{read_is_ascii}

-- a fault of a map is told, unless memory is wanting
pub which_stop : (f : MapFault)
    → (stop_for_map f ≡ stop.Run fault.Memory) ⊎ ((stop_for_map f ≡ stop.Map f) × ¬ (f ≡ maps.Memory))
which_stop maps.Json = inr (refl, λ e. absurd (cc))
which_stop maps.Shape = inr (refl, λ e. absurd (cc))
which_stop maps.Workers = inr (refl, λ e. absurd (cc))
which_stop maps.Unknown = inr (refl, λ e. absurd (cc))
which_stop maps.Doubled = inr (refl, λ e. absurd (cc))
which_stop maps.Unserved = inr (refl, λ e. absurd (cc))
which_stop maps.Memory = inl refl

-- the run ends at a map that is refused
pub map_refused : (files : FilesSeen) (d p s : List ℕ) (task : Task) → SpellsTask d p s task → (path bytes : List ℕ)
    → HasBytes files.told (file_of role.Map path) bytes
    → Extends files.before files.after (ask (Ok tt) (file_of role.Map path) ∷ [])
    → (f : MapFault) → RefusesMap task bytes f
    → EndsHere files (d ∷ p ∷ s ∷ []) (file_of role.Map path) (stop_for_map f)
map_refused files d p s task spelled path bytes has asked f r = by (which_stop f)
  where
    ends : (why : Stop) → MayEnd files (d ∷ p ∷ s ∷ []) (file_of role.Map path) why → IsFileAnswer why (Ok tt)
        → EndsHere files (d ∷ p ∷ s ∷ []) (file_of role.Map path) why
    ends why cause answered = record { cause = cause; answer = Ok tt; answered = answered; asked = asked }

    by : (stop_for_map f ≡ stop.Run fault.Memory) ⊎ ((stop_for_map f ≡ stop.Map f) × ¬ (f ≡ maps.Memory))
        → EndsHere files (d ∷ p ∷ s ∷ []) (file_of role.Map path) (stop_for_map f)
    by (inl memory) =
        subst (EndsHere files (d ∷ p ∷ s ∷ []) (file_of role.Map path)) (sym memory) (ends (stop.Run fault.Memory) tt tt)
    by (inr (told_so, certain)) =
        subst (EndsHere files (d ∷ p ∷ s ∷ []) (file_of role.Map path)) (sym told_so)
        (ends (stop.Map f) (refl, record { bytes = bytes; has = has; so = (task, spelled, certain, r) }) refl)

-- the run ends at a grid that is refused
pub grid_refused : (files : FilesSeen) (texts : List (List ℕ)) (path bytes : List ℕ)
    → HasBytes files.told (file_of role.Grid path) bytes
    → Extends files.before files.after (ask (Ok tt) (file_of role.Grid path) ∷ [])
    → (f : GridFault) → BlamesGridText bytes f
    → EndsHere files texts (file_of role.Grid path) (stop_for_grid f)
grid_refused files texts path bytes has asked (grid.At line kind) b =
    record { cause = (refl, record { bytes = bytes; has = has; so = b }); answer = Ok tt; answered = refl; asked = asked }
grid_refused files texts path bytes has asked grid.Memory b =
    record { cause = tt; answer = Ok tt; answered = tt; asked = asked }

-- where nothing is asked for
pub extends_none : (o : Option (List AskedPath)) → Extends o o []
extends_none None = tt
extends_none (Some xs) = (xs, refl, sym (append-nil xs))

-- the program makes no pool, where no map is named
pub none_made : {X : Type 0} (path : Option (List ℕ)) → path ≡ None → (files : FilesSeen)
    → Extends files.before files.after [] → (w : SolveWords) (task : Task) (r : Result X Stop)
    → IfErr r (λ why. (f : MapFault) × (why ≡ stop_for_map f) × Refused (all_stream_names task) (words_form task w.program w.workers) f)
    → IfErr r (λ why. (d p s : List ℕ) → SpellsTask d p s task → EndsAtPools path files (d ∷ p ∷ s ∷ []) w task why)
none_made path none files nothing w task (Ok x) made = tt
none_made path none files nothing w task (Err why) made = λ d p s spelled.
    subst (λ o. EndsAtPools o files (d ∷ p ∷ s ∷ []) w task why) (sym none)
    (record { fault = made.0; is = made.1; refused = made.2; asked = nothing })

-- a grid's text is UTF-8
pub grid_is_utf8 : (bytes : List ℕ) (g : GridFile) → IsGridOf bytes g → IsUtf8 bytes
grid_is_utf8 bytes g is = IsUtf8-from_ascii bytes (read_is_ascii bytes g is)
