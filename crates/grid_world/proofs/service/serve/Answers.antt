use Rattle.std.proofs.Common.{◌≡◌, ◌∷◌, [], arith, inl, inr, Ok, map, refl, string_bytes, subst}
use Rattle.grid_text.specs.Files.{BlamesGridText, IsGridOf}
use Rattle.grid_world.proofs.ServingLemmas.{one_word}
use Rattle.grid_world.proofs.service.serve.Goals as goal

pub returns-in-Ok-read_grid : goal.returns-in-Ok-read_grid
returns-in-Ok-read_grid g c =
    let one : map string_bytes c.args.words.now ≡ c.as_str.result.now ∷ [] =
    one_word string_bytes c.args.words.now c.path-item.result c.as_str.result.now (omega arith)
    (omega arith) c.path-item.is c.as_str.ensures.value in
    let read = subst (λ bytes. IsGridOf bytes c.in-Ok-read_grid.grid) c.deref.ensures.value c.in-Ok-read_grid.ensures.grid in
    rw one (record {
      answer = Ok tt;
      asked = c.in-Ok.ensures.asked;
      so = (
        c.in-Ok.bytes.items,
        c.in-Ok.ensures.count,
        c.in-Ok.ensures.bytes,
        inl (record {
          grid = c.in-Ok-read_grid.grid;
          read = read;
          answers = c.serve_lines.ensures.answers;
          faults = c.serve_lines.ensures.faults;
        }),
      );
    })

pub returns-in-Err-At : goal.returns-in-Err-At
returns-in-Err-At g c =
    let one : map string_bytes c.args.words.now ≡ c.as_str.result.now ∷ [] =
    one_word string_bytes c.args.words.now c.path-item.result c.as_str.result.now (omega arith)
    (omega arith) c.path-item.is c.as_str.ensures.value in
    let bytes = c.in-Ok.bytes.items in
    let told = subst (λ bs. BlamesGridText bs c.in-Err-At.field-0) c.deref.ensures.value c.in-Err-At.ensures.fault in
    rw one (record {
      answer = Ok tt;
      asked = c.in-Ok.ensures.asked;
      so = (
        bytes,
        c.in-Ok.ensures.count,
        c.in-Ok.ensures.bytes,
        inr (inl (record {
          line = c.in-Err-At.field-0-0;
          kind = c.in-Err-At.field-0-1;
          blames = subst (BlamesGridText bytes) c.in-Err-At.field-0-is told;
          is = refl;
          untouched = record { left = refl; taken = refl };
        })),
      );
    })
