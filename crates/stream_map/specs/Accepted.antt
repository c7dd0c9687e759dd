-- Which maps are accepted, and which are refused for what.
use Rattle.std.specs.Prelude.{◌≡◌, ℕ, List, map, Option, Some, None, IsUtf8, ⊤}
use Rattle.serde_json.specs.Data.{Data}
use Rattle.serde_json.specs.Read.{read}
use Rattle.task_model.specs.declared.task.Task.{Task}
use Rattle.transcript_model.specs.declared.head.Pool.{Pool}
use Rattle.stream_map.specs.Spelled.{Spelled}
use Rattle.stream_map.specs.Form.{map_in_data, all_stream_names}
use Rattle.stream_map.specs.Faults.{map_fault, Refused}
use Rattle.stream_map.specs.Children.{plain, numbered_pools}
use Rattle.stream_map.specs.declared.fault.MapFault.{MapFault}
use Rattle.stream_map.specs.declared.fault.MapFault.TheVariants.{Json, Memory}

-- the pools are those that the form spells, in which there is no fault
pub record Accepted (task : Task) (form : Option (List Spelled)) (pools : List Pool) : Type 0 where
  pub spelled : List Spelled
  pub form_is : form ≡ Some spelled
  pub right : map_fault (all_stream_names task) spelled ≡ None
  pub pools_are : map plain pools ≡ numbered_pools (all_stream_names task) 0 spelled

-- the bytes are this JSON value
pub record IsJson (bytes : List ℕ) (d : Data) : Type 0 where
  pub utf8 : IsUtf8 bytes
  pub value : read bytes ≡ Some d

-- the pools that a map spells
pub record AcceptedMap (task : Task) (bytes : List ℕ) (pools : List Pool) : Type 0 where
  pub data_of : Data
  pub json : IsJson bytes data_of
  pub accepted : Accepted task (map_in_data data_of) pools

-- The value of a map that is refused for this cause.
pub record RefusedMap (task : Task) (bytes : List ℕ) (why : MapFault) : Type 0 where
  pub data_of : Data
  pub json : IsJson bytes data_of
  pub refused : Refused (all_stream_names task) (map_in_data data_of) why

-- Why a map is refused: no JSON, or a value that isn't accepted. Want of memory is free.
abbrev pub RefusesMap : Task → List ℕ → MapFault → Type 0
RefusesMap task bytes Json = IsUtf8 bytes → read bytes ≡ None
RefusesMap task bytes Memory = ⊤
RefusesMap task bytes why = RefusedMap task bytes why
