use Rattle.std.proofs.Common.{◌≡◌, ◌∙◌, arith, codes, string_bytes, sym, true}
use Rattle.std.specs.Str.{bytes_eq}
use Rattle.std.proofs.lemmas.Slice.Eq.{bytes_eq-Decides}
use Rattle.grid_world.proofs.ServingLemmas.{two_words}
use Rattle.grid_world.proofs.grid_gen.grid_text_in.Goals as goal

pub returns : goal.returns
returns c =
    let name = c.name-item.result in
    let same : bytes_eq (string_bytes name) (codes "@grid") ≡ true = sym c.is_grid_word.ensures ∙ c.if-not-is_grid_word.false in
    record {
      words_are =
          two_words string_bytes c.args.argv.now name c.text-item.result (codes "@grid") c.as_bytes.result.now (omega arith) (omega arith)
          c.name-item.is c.text-item.is (sym ((bytes_eq-Decides (string_bytes name) (codes "@grid")).0 same)) c.as_bytes.ensures.value;
      short = omega (arith, c.len.ensures, c.if-len-ge-TEXT_BYTES.false);
    }
