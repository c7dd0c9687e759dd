use Rattle.std.proofs.Common.{◌∙◌}
use Rattle.serde_json.specs.View.{view}
use Rattle.stream_map.specs.Form.{is_map_key}
use Rattle.stream_map.proofs.FormLemmas.{has_only-object}
use Rattle.stream_map.proofs.form.is_map_object.Goals as goal

pub returns-in-Some : goal.returns-in-Some
returns-in-Some c =
    c.has_map_keys.ensures
    ∙ has_only-object is_map_key (view c.args.value.now) c.in-Some.members.now.entries c.in-Some.ensures
