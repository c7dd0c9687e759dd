-- The names of a legal transcript are declared, or generated from values.
use Rattle.std.proofs.Common.{◌≡◌, ℕ, suc, inl, inr, Bool, true, false, cond, List, [], ◌∷◌, ◌++◌, All, refl, Some, slice_get}
use Rattle.std.proofs.lemmas.List.Elements.{All-nil, All-contains, All-map, All-push}
use Rattle.std.specs.List.{list_any, flat_map}
use Rattle.gen_lines.specs.Reply.{is_value}
use Rattle.lemmas.proofs.Members.{member_at}
use Rattle.task_model.specs.Fit.{IsFit, is_name}
use Rattle.task_model.specs.Initial.{declared_names}
use Rattle.task_model.specs.Known.{same_numbers, with_name, with_names}
use Rattle.task_model.specs.declared.task.Task.{Task}
use Rattle.transcript_model.proofs.NamedObjectLemmas.{all_joined, passes_all}
use Rattle.transcript_model.specs.Legal.{IsLegal}
use Rattle.transcript_model.specs.Names.{generated}
use Rattle.transcript_model.specs.Transcript.{names_of, objects_in}
use Rattle.transcript_model.specs.declared.entry.Entry.{Entry}
use Rattle.transcript_model.specs.declared.entry.Entry.TheVariants as entry
use Rattle.report_text.specs.Forms.{IsObject}

with_name-all : (P : List ℕ → Type 0) (names : List (List ℕ)) (name : List ℕ) → All P names → P name
    → All P (with_name names name)
with_name-all P names name all one = by (list_any (same_numbers name) names)
  where
    by : (b : Bool) → All P (cond b names (names ++ name ∷ []))
    by true = all
    by false = All-push P names name all one

with_names-all : (P : List ℕ → Type 0) (names more : List (List ℕ)) → All P names
    → ((k : ℕ) (name : List ℕ) → slice_get more k ≡ Some name → P name) → All P (with_names names more)
with_names-all P names [] all each = all
with_names-all P names (name ∷ more) all each =
    with_names-all P (with_name names name) more (with_name-all P names name all (each 0 name refl)) (λ k n at. each (suc k) n at)

module _ (version : ℕ) (task : Task) (fit : IsFit task) (entries : List Entry) (legal : IsLegal version task entries) where
  values_named : (k : ℕ) (e : Entry) → slice_get entries k ≡ Some e → All IsObject (objects_in e)
  values_named k (entry.Got number tuples values) at =
      let valid = (legal k (entry.Got number tuples values) at).right.valid in
      All-map IsObject generated values (passes_all is_value (λ v. IsObject (generated v)) values (λ v e. inr (v, refl, e)) valid)
  values_named k e at = All-nil IsObject

  -- the table of names has declared names, and generated ones
  pub names_formed : All IsObject (names_of task entries)
  names_formed =
      let declared = passes_all is_name IsObject (declared_names task) (λ name e. inl e) fit.problem.objects.names.each in
      let values = all_joined IsObject objects_in entries values_named in
      with_names-all IsObject (declared_names task) (flat_map objects_in entries) declared
      (λ k name at. All-contains IsObject (flat_map objects_in entries) name values (member_at (flat_map objects_in entries) k name at))
