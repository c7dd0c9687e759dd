use Rattle.std.proofs.Common.{rules, ◌≡◌, ◌-◌, ◌<◌, length, get_or}
use Rattle.report_reader.proofs.LastByteLemmas.{feed_ends}
use Rattle.report_reader.proofs.reader.ends_with_feed.Goals as goal

pub returns-in-Some : goal.returns-in-Some
returns-in-Some c =
    let bytes = c.args.bytes.now in
    let some : 0 < length bytes = search rules in
    let is : c.in-Some.b.now ≡ get_or bytes (length bytes - 1) c.in-Some.b.now = search rules in
    feed_ends bytes c.in-Some.b.now some is
