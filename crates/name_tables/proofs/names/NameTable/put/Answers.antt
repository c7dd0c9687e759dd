use Rattle.std.proofs.Common.{ap, ◌∙◌, not}
use Rattle.std.specs.List.{position_or_len}
use Rattle.std.specs.Str.{bytes_eq}
use Rattle.lemmas.proofs.MappedTests.{key_added, key_there, prefix_mapped}
use Rattle.name_tables.proofs.NamesLemmas.{place_put}
use Rattle.name_tables.proofs.names.NameTable.put.Goals as goal

pub returns-clause-names : goal.returns-clause-names
returns-clause-names c =
    key_added (λ v. v.items) c.self.inside.names.keys c.in_ok-bytes.bytes c.args.self.now c.args.name.now c.self.view_is
    c.in_ok-bytes.ensures.items c.insert_full.new.self.keys c.in_ok-insert_full.ensures.keys

pub returns-clause-fresh : goal.returns-clause-fresh
returns-clause-fresh c =
    c.in_ok-insert_full.ensures.added
    ∙ ap not (key_there (λ v. v.items) c.self.inside.names.keys c.in_ok-bytes.bytes c.args.self.now c.args.name.now c.self.view_is
    c.in_ok-bytes.ensures.items)

pub returns-clause-place : goal.returns-clause-place
returns-clause-place c =
    place_put c.args.name.now c.args.self.now c.in_ok-insert_full.field-0.0 c.in_ok-insert_full.field-0.1
    (returns-clause-fresh c)
    (c.in_ok-insert_full.ensures.index
    ∙ prefix_mapped (λ v. v.items) (bytes_eq c.in_ok-bytes.bytes.items) c.self.inside.names.keys
    ∙ (λ i. position_or_len (bytes_eq (c.in_ok-bytes.ensures.items i)) (c.self.view_is i)))
