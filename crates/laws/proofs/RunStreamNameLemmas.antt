-- A stream of a task has a name, by which it is found.
use Rattle.std.proofs.Common.{◌≡◌, ℕ, ◌<◌, true, List, [], map, length, Contains, ap, ◌∙◌, Some, slice_get, arith}
use Rattle.std.proofs.lemmas.List.Elements.{All-contains}
use Rattle.std.proofs.lemmas.Option.{slice_get-map}
use Rattle.std.specs.Option.{option_map}
use Rattle.task_model.proofs.KnownLemmas.{numbers_decided}
use Rattle.lemmas.proofs.Members.{member_at}
use Rattle.task_model.specs.Fit.{IsFit, is_name}
use Rattle.task_model.specs.Known.{same_numbers}
use Rattle.task_model.specs.declared.stream.Instance.{Instance}
use Rattle.task_model.specs.declared.stream.Stream.{Stream}
use Rattle.task_model.specs.declared.task.Task.{Task}
use Rattle.transcript_model.proofs.CallNameLemmas.{call_names_instance}
use Rattle.transcript_model.proofs.NamedObjectLemmas.{passes_all}
use Rattle.transcript_model.proofs.NamesLemmas.{map_some, position_at}
use Rattle.transcript_model.specs.Names.{stream_named}
use Rattle.gen_lines.specs.Request.{stream_name}
use Rattle.lemmas.proofs.Options.{and_then_some}

module _ (task : Task) (fit : IsFit task) where
  pub stream_found : (k : ℕ) → k < length task.streams → stream_named task (stream_name task k) ≡ Some k
  stream_found k below =
      let i : Instance = record { stream = k; inputs = [] } in
      let whole =
      call_names_instance task [] i fit (λ a b x at_a at_b. absurd (nothing a x at_a)) below
      (λ o there. absurd (none o there)) in
      let first =
      and_then_some (λ stream. option_map (λ inputs. record { stream = stream; inputs = inputs }) (Some []))
      (stream_named task (stream_name task k)) i whole in
      let second = map_some (λ inputs. record { stream = first.0; inputs = inputs }) (Some []) i first.2 in
      let same : first.0 ≡ k = ap (λ (j : Instance). j.stream) second.2 in
      first.1 ∙ ap Some same
    where
      nothing : (a : ℕ) (x : List ℕ) → slice_get [] a ≡ Some x → ⊥
      nothing a x at = absurd (cc)

      none : (o : ℕ) → Contains [] o → ⊥
      none o there = omega (arith, there.1)

  -- a stream of the task has a name
  pub name_there : (k : ℕ) → k < length task.streams → is_name (stream_name task k) ≡ true
  name_there k below =
      let place = position_at (λ (s : Stream). same_numbers (stream_name task k) s.name) task.streams k
      (stream_found k below) in
      let same = (numbers_decided (stream_name task k) place.0.name).0 place.2 in
      let there = slice_get-map (λ (s : Stream). s.name) task.streams k
      ∙ ap (option_map (λ (s : Stream). s.name)) place.1 in
      ap is_name same
      ∙ All-contains (λ name. is_name name ≡ true) (map (λ (s : Stream). s.name) task.streams) place.0.name
      (passes_all is_name (λ name. is_name name ≡ true) (map (λ (s : Stream). s.name) task.streams)
      (λ name e. e) fit.streams.names.each) (member_at (map (λ (s : Stream). s.name) task.streams) k place.0.name there)
