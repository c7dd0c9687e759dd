use Rattle.std.proofs.Common.{ap, ◌∙◌, position}
use Rattle.std.specs.Str.{bytes_eq}
use Rattle.stream_map.proofs.names.StreamNames.place_of.Goals as goal
use Rattle.lemmas.proofs.MappedTests.{position_mapped}

pub returns : goal.returns
returns c =
    c.get_index_of.ensures.index
    ∙ position_mapped (λ v. v.items) (bytes_eq c.args.name.now) c.self.inside.names.keys
    ∙ ap (position (bytes_eq c.args.name.now)) c.self.view_is
