-- The entries that a run writes have the stated forms.
use Rattle.std.proofs.Common.{◌≡◌, ℕ, zero, suc, ◌*◌, ◌≤◌, not, true, List, [], ◌∷◌, length, take, drop, map, count_by, All, refl, sym, ap, subst, ◌∙◌, Some, slice_get, arith, eq-eqb}
use Rattle.std.proofs.lemmas.List.{take-append-drop}
use Rattle.std.proofs.lemmas.List.Elements.{All-nil, All-cons, All-contains}
use Rattle.std.proofs.lemmas.Option.{slice_get-map}
use Rattle.std.specs.Cmp.{first_so}
use Rattle.std.specs.List.{list_any}
use Rattle.std.specs.Option.{option_map}
use Rattle.gen_lines.specs.Reply.{is_value, IsRight}
use Rattle.lemmas.proofs.Counts.{count_joined}
use Rattle.task_model.proofs.KnownLemmas.{numbers_decided}
use Rattle.lemmas.proofs.Members.{member_at}
use Rattle.task_model.specs.Fit.{IsFit, is_name}
use Rattle.task_model.specs.Known.{same_numbers}
use Rattle.task_model.specs.declared.stream.Instance.{Instance}
use Rattle.task_model.specs.declared.stream.Stream.{Stream}
use Rattle.task_model.specs.declared.task.Task.{Task}
use Rattle.transcript_model.proofs.LegalPrefixLemmas.{legal_take}
use Rattle.transcript_model.proofs.NamedObjectLemmas.{passes_all}
use Rattle.transcript_model.proofs.LegalNumberLemmas.{number_below}
use Rattle.transcript_model.proofs.NamesLemmas.{map_some, place_at, position_at}
use Rattle.report_text.specs.Forms.{AreTuples, IsFormedCall, IsFormedEntry, IsObject}
use Rattle.transcript_model.specs.Legal.{IsLegal, asks_of, has_several, is_answer_to, is_ask_of, is_open, is_answer}
use Rattle.transcript_model.specs.Names.{instance_of, place_of, places_of, stream_named}
use Rattle.transcript_model.specs.Transcript.{names_of}
use Rattle.transcript_model.specs.declared.entry.Call.{Call}
use Rattle.transcript_model.specs.declared.entry.Entry.{Entry}
use Rattle.transcript_model.specs.declared.entry.Entry.TheVariants as entry
use Rattle.laws.proofs.RunPlainEntryLemmas.{is_plain}
use Rattle.table_runs.proofs.YieldsLemmas.{yields_few}
use Rattle.std.proofs.lemmas.Map.Keys.{any_passes_from_place}
use Rattle.lemmas.proofs.ListTests.{all_at, any_append_left}
use Rattle.report_text.proofs.FormsNameLemmas.{names_formed}
use Rattle.lemmas.proofs.Options.{and_then_some}

-- ---- names

placed_formed : (names more : List (List ℕ)) (objects : List ℕ) → All IsObject names
    → places_of names more ≡ Some objects
    → All IsObject more
placed_formed names [] objects all is = All-nil IsObject
placed_formed names (name ∷ more) objects all is =
    let first = and_then_some (λ object. option_map (λ os. object ∷ os) (places_of names more))
    (place_of names name) objects is in
    let second = map_some (λ os. first.0 ∷ os) (places_of names more) objects first.2 in
    let here = place_at names name first.0 first.1 in
    All-cons IsObject name more (All-contains IsObject names name all (member_at names first.0 name here))
    (placed_formed names more second.0 all second.1)

-- ---- entries

no_width : (tuples outputs : ℕ) → 1 ≤ tuples → tuples * outputs ≡ 0 → outputs ≡ 0
no_width zero outputs some none = absurd (omega (arith, some))
no_width (suc t) outputs some none = omega (arith, none)

tuples_formed : (version outputs tuples : ℕ) (values : List (List ℕ))
    → IsRight outputs (has_several version) tuples values
    → AreTuples version tuples values
tuples_formed version outputs tuples values right = record {
  some = right.some;
  few = right.few;
  one = λ first. right.one (ap not (eq-eqb version 1 first));
  empty = λ none. right.test (no_width tuples outputs right.some (sym right.count ∙ none));
  width = outputs;
  equal = right.count;
  each = passes_all is_value (λ v. is_value v ≡ true) values (λ v e. e) right.valid;
}

-- requests are few, and answers are as few
pub record AreFew (entries : List Entry) : Type 0 where
  pub asks : asks_of entries ≤ 100000
  pub answers : count_by is_answer entries ≤ 100000

module _ (version : ℕ) (task : Task) (fit : IsFit task) (entries : List Entry)
    (legal : IsLegal version task entries) (few : AreFew entries) where
  asked_few : (n : ℕ) → list_any (is_ask_of n) entries ≡ true → n ≤ 100000
  asked_few n there = omega (arith, (number_below version task entries n legal there).1, few.asks)

  open_few : (k n : ℕ) → is_open (take k entries) n ≡ true → n ≤ 100000
  open_few k n waiting =
      let there = first_so (list_any (is_ask_of n) (take k entries))
      (not (list_any (is_answer_to n) (take k entries))) waiting in
      asked_few n (subst (λ es. list_any (is_ask_of n) es ≡ true)
      (take-append-drop k entries) (any_append_left (is_ask_of n) (take k entries) (drop k entries) there))

  -- an answer's number is one of a request's
  pub answer_few : (k number tuples : ℕ) (values : List (List ℕ))
      → slice_get entries k ≡ Some (entry.Got number tuples values)
      → number ≤ 100000
  answer_few k number tuples values at =
      open_few k number (legal k (entry.Got number tuples values) at).waiting

  call_formed : (k : ℕ) (call : Call) (i : Instance)
      → instance_of task (names_of task (take k entries)) call ≡ Some i
      → IsFormedCall IsObject call
  call_formed k call i named =
      let names = names_of task (take k entries) in
      let first =
      and_then_some (λ stream. option_map (λ inputs. record { stream = stream; inputs = inputs })
      (places_of names call.args))
      (stream_named task call.name) i named in
      let second = map_some (λ inputs. record { stream = first.0; inputs = inputs })
      (places_of names call.args) i first.2 in
      let place = position_at (λ (s : Stream). same_numbers call.name s.name) task.streams first.0 first.1 in
      let same = (numbers_decided call.name place.0.name).0 place.2 in
      let there = slice_get-map (λ (s : Stream). s.name) task.streams first.0
      ∙ ap (option_map (λ (s : Stream). s.name)) place.1 in
      let stream_name = all_at is_name
      (map (λ (s : Stream). s.name) task.streams) first.0 place.0.name fit.streams.names.each there in
      record {
        name = ap is_name same ∙ stream_name;
        args = placed_formed names call.args second.0
            (names_formed version task fit (take k entries) (legal_take version task entries k legal)) second.1;
      }

  pub entry_formed : (k : ℕ) (e : Entry) → slice_get entries k ≡ Some e → is_plain e ≡ true
      → IsFormedEntry version e
  entry_formed k (entry.Ask number turn call) at plain =
      let right = legal k (entry.Ask number turn call) at in
      let yields = yields_few version task (take k entries) right.instance (legal_take version task entries k legal) in
      let parts = ap (count_by is_answer) (take-append-drop k entries) in
      let sums = count_joined is_answer (take k entries) (drop k entries) in
      let asked =
      asked_few number (any_passes_from_place (is_ask_of number) entries k (entry.Ask number turn call) at
      (eq-eqb number number refl))
      in (
        omega (arith, asked),
        omega (arith, right.turned, yields, parts, sums, few.answers),
        call_formed k call
            right.instance right.named,
      )
  entry_formed k (entry.Got number tuples values) at plain =
      let right = legal k (entry.Got number tuples values) at in (
        omega (arith, open_few k number right.waiting),
        tuples_formed version (length right.request.stream.outputs) tuples values right.right,
      )
  entry_formed k (entry.Value number value) at plain =
      let right = legal k (entry.Value number value) at in
      (omega (arith, open_few k number right.waiting), right.few)
  entry_formed k (entry.End number) at plain =
      omega (arith, open_few k number (legal k (entry.End number) at))
  entry_formed k entry.Level at plain = tt
  entry_formed k e at plain = absurd (cc)
