-- Requests, read back from the lines that were written.
use Rattle.std.proofs.Common.{◌≡◌, ℕ, suc, ◌<◌, ◌^◌, Bool, true, false, cond, All, List, [], ◌∷◌, ◌++◌, map, Some, slice_get, refl, sym, ap, subst, ◌∙◌, arith}
use Rattle.std.proofs.lemmas.Bool.{and_from}
use Rattle.std.proofs.lemmas.Fmt.{decimal_nonempty, digits_decimal, digits_value-decimal}
use Rattle.std.proofs.lemmas.List.Elements.{All-contains}
use Rattle.std.proofs.lemmas.Option.{slice_get-map}
use Rattle.std.specs.Char.{is_ascii_digit}
use Rattle.std.specs.Fmt.{decimal}
use Rattle.std.specs.List.{filter, join_with_byte, list_all}
use Rattle.std.specs.Option.{option_map}
use Rattle.std.specs.Str.Parse.{digits_value}
use Rattle.gen_lines.proofs.FieldLemmas.{filled}
use Rattle.gen_lines.proofs.RequestReadBack.{requests_read_back}
use Rattle.gen_lines.specs.Laws.{is_printed}
use Rattle.gen_lines.specs.Lines.{lines_of}
use Rattle.gen_lines.specs.Reply.{fields, is_filled}
use Rattle.gen_lines.specs.Request.{request_line, stream_name}
use Rattle.lemmas.proofs.Digits.{own}
use Rattle.lemmas.proofs.ListTests.{all_at}
use Rattle.lemmas.proofs.Members.{member_at}
use Rattle.lemmas.proofs.Options.{and_then_some}
use Rattle.round_run.specs.Dialogue.{Request, bytes_to, is_to, text_of_request}
use Rattle.table_runs.proofs.AskingNameLemmas.{name_printed, names_printed}
use Rattle.table_runs.specs.Asking.{asked_by, asking_by, asking_of}
use Rattle.task_model.proofs.KnownLemmas.{numbers_decided}
use Rattle.task_model.proofs.StreamsLemmas.{names_there}
use Rattle.task_model.specs.Fit.{IsFit, is_name}
use Rattle.task_model.specs.Known.{same_numbers}
use Rattle.task_model.specs.Streams.{name_at}
use Rattle.task_model.specs.declared.stream.Instance.{Instance}
use Rattle.task_model.specs.declared.stream.Stream.{Stream}
use Rattle.task_model.specs.declared.task.Task.{Task}
use Rattle.transcript_model.proofs.CallNameLemmas.{places_exact}
use Rattle.transcript_model.proofs.LegalPrefixLemmas.{names_of-distinct}
use Rattle.transcript_model.proofs.NamesLemmas.{map_some, position_at}
use Rattle.transcript_model.specs.Legal.{IsLegal}
use Rattle.transcript_model.specs.Names.{instance_of, places_of, stream_named}
use Rattle.transcript_model.specs.Transcript.{names_of}
use Rattle.transcript_model.specs.declared.entry.Call.{Call}
use Rattle.transcript_model.specs.declared.entry.Entry.{Entry}

-- ---- calls of instances

-- what a call stands for is shown by it
record Shows (task : Task) (names : List (List ℕ)) (call : Call) (i : Instance) : Type 0 where
  name : stream_name task i.stream ≡ call.name
  objects : map (slice_get names) i.inputs ≡ map Some call.args
  args : map (name_at names) i.inputs ≡ call.args
  stream : Stream
  at : slice_get task.streams i.stream ≡ Some stream

call_shows : (task : Task) (fit : IsFit task) (entries : List Entry) (call : Call) (i : Instance)
    → instance_of task (names_of task entries) call ≡ Some i → Shows task (names_of task entries) call i
call_shows task fit entries call i is =
    let names = names_of task entries in
    let stream = and_then_some (λ s. option_map (λ inputs. record { stream = s; inputs = inputs }) (places_of names call.args))
    (stream_named task call.name) i is in
    let inputs = map_some (λ inputs. record { stream = stream.0; inputs = inputs }) (places_of names call.args) i stream.2 in
    let place : stream.0 ≡ i.stream = ap (λ (x : Instance). x.stream) inputs.2 in
    let objects : inputs.0 ≡ i.inputs = ap (λ (x : Instance). x.inputs) inputs.2 in
    let found = position_at (λ (s : Stream). same_numbers call.name s.name) task.streams stream.0 stream.1 in
    let there : slice_get task.streams i.stream ≡ Some found.0 = ap (slice_get task.streams) (sym place) ∙ found.1 in
    let named : call.name ≡ found.0.name = (numbers_decided call.name found.0.name).0 found.2 in
    let exact = (places_exact names call.args inputs.0 (names_of-distinct task entries fit.problem.objects.names.distinct)).0 inputs.1 in
    record {
      name = (let there_name : stream_name task i.stream ≡ found.0.name = rw there refl in there_name) ∙ sym named;
      objects = ap (map (slice_get names)) (sym objects) ∙ exact;
      args = ap (map (name_at names)) (sym objects) ∙ names_there names call.args inputs.0 exact;
      stream = found.0;
      at = there;
    }

-- ---- a request's line

-- the line of a request, without its line feed
abbrev pub line_of_request : Request → List ℕ
line_of_request r = join_with_byte 32 (request_line r.turn r.call.name r.call.args)

-- The line of a request is read as a line, and asks what the request asks.
pub record ReadsAs (r : Request) : Type 0 where
  pub line : (later : List ℕ) → lines_of (text_of_request r ++ later) ≡ line_of_request r ∷ lines_of later
  pub asks : asked_by (line_of_request r) ≡ Some (asking_by r)

args_printed : (names more : List (List ℕ)) (objects : List ℕ) → All (λ name. is_printed name ≡ true) names
    → map (slice_get names) objects ≡ map Some more → list_all is_printed more ≡ true
args_printed names [] objects all e = refl
args_printed names (name ∷ more) [] all e = absurd (cc)
args_printed names (name ∷ more) (o ∷ objects) all e =
    let first : slice_get names o ≡ Some name = cc in
    let rest : map (slice_get names) objects ≡ map Some more = cc in
    and_from (is_printed name) (list_all is_printed more)
    (All-contains (λ text. is_printed text ≡ true) names name all (member_at names o name first))
    (args_printed names more objects all rest)

fields_ask : (line : List ℕ) (turn : ℕ) (call : Call) → turn < 2 ^ 64 → fields line ≡ request_line turn call.name call.args
    → asked_by line ≡ Some (record { turn = turn; call = call })
fields_ask line turn call small is =
    ap asking_of is
    ∙ (let filled_one : is_filled (decimal turn) ≡ true = filled (decimal turn) (decimal_nonempty turn small) in
    let digits : list_all is_ascii_digit (decimal turn) ≡ true = digits_decimal own turn small in
    let value : digits_value 10 (decimal turn) ≡ turn = digits_value-decimal own turn small in
    rw (filled_one, digits, value) refl)

pub request_reads : (version : ℕ) (task : Task) (fit : IsFit task) (entries : List Entry) → IsLegal version task entries
    → (r : Request) (i : Instance) → instance_of task (names_of task entries) r.call ≡ Some i → r.turn < 2 ^ 32 → ReadsAs r
request_reads version task fit entries legal r i is small =
    let names = names_of task entries in
    let shows = call_shows task fit entries r.call i is in
    let there : stream_name task i.stream ≡ shows.stream.name = rw shows.at refl in
    let at_names : slice_get (map (λ (s : Stream). s.name) task.streams) i.stream ≡ Some shows.stream.name =
    slice_get-map (λ (s : Stream). s.name) task.streams i.stream ∙ ap (option_map (λ (s : Stream). s.name)) shows.at in
    let name : is_name shows.stream.name ≡ true =
    all_at is_name (map (λ (s : Stream). s.name) task.streams) i.stream shows.stream.name fit.streams.names.each at_names in
    let stream : is_printed (stream_name task i.stream) ≡ true = ap is_printed there ∙ name_printed shows.stream.name name in
    let args : list_all is_printed (map (name_at names) i.inputs) ≡ true =
    ap (list_all is_printed) shows.args
    ∙ args_printed names r.call.args i.inputs (names_printed version task entries fit legal) shows.objects in
    let back = requests_read_back task names r.turn i small stream args in
    let words : request_line r.turn (stream_name task i.stream) (map (name_at names) i.inputs)
    ≡ request_line r.turn r.call.name r.call.args =
    (λ k. request_line r.turn (shows.name k) (shows.args k)) in
    record {
      line = λ later.
          subst (λ ws. lines_of ((join_with_byte 32 ws ++ 10 ∷ []) ++ later) ≡ join_with_byte 32 ws ∷ lines_of later) words
          (back.line later);
      asks = fields_ask (line_of_request r) r.turn r.call (omega (arith, small))
          (subst (λ ws. fields (join_with_byte 32 ws) ≡ ws) words back.words);
    }

-- ---- the lines of all requests

-- what was written to the child are the lines of its requests
pub written_lines : (child : ℕ) (rs : List Request) → ((k : ℕ) (r : Request) → slice_get rs k ≡ Some r → ReadsAs r)
    → lines_of (bytes_to child rs) ≡ map line_of_request (filter (is_to child) rs)
written_lines child [] reads = refl
written_lines child (r ∷ rs) reads = by (is_to child r) refl (written_lines child rs (λ k x at. reads (suc k) x at))
  where
    by : (b : Bool) → is_to child r ≡ b → lines_of (bytes_to child rs) ≡ map line_of_request (filter (is_to child) rs)
        → lines_of (bytes_to child (r ∷ rs)) ≡ map line_of_request (filter (is_to child) (r ∷ rs))
    by true e later =
        ap (λ b. lines_of (cond b (text_of_request r) [] ++ bytes_to child rs)) e ∙ (reads 0 r refl).line (bytes_to child rs)
        ∙ ap (λ ls. line_of_request r ∷ ls) later
        ∙ ap (λ b. map line_of_request (cond b (r ∷ filter (is_to child) rs) (filter (is_to child) rs))) (sym e)
    by false e later =
        ap (λ b. lines_of (cond b (text_of_request r) [] ++ bytes_to child rs)) e ∙ later
        ∙ ap (λ b. map line_of_request (cond b (r ∷ filter (is_to child) rs) (filter (is_to child) rs))) (sym e)
