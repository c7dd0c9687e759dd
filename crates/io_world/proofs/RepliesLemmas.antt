-- Requests that are answered, byte by byte.
use Rattle.std.proofs.Common.{◌≡◌, ℕ, zero, suc, Bool, true, false, ◌==◌, if◌then◌else◌, List, [], ◌∷◌, ◌++◌, refl, sym, ap, ◌∙◌, subst, map, arith, append_assoc}
use Rattle.std.specs.List.{All}
use Rattle.std.proofs.lemmas.Bool.{eqb-true}
use Rattle.std.proofs.lemmas.List.{append-nil, map-append}
use Rattle.std.proofs.lemmas.List.Elements.{All-append}
use Rattle.std.proofs.lemmas.List.Folds.{list_any-append}
use Rattle.std.proofs.lemmas.Grind.{flat_map-append}
use Rattle.io_world.specs.Replies.{IsLine, ReplyState, HearsByte, Replies}
use Rattle.lemmas.specs.Lists.{lines_with_feeds}

-- nothing was asked yet
pub none_asked : (answers : List ℕ → List ℕ) (old new : ReplyState) → new ≡ old → IsLine new.request
    → Replies answers [] old new
none_asked answers old new same line =
    let P : ReplyState → Type 0 = λ start. Replies answers [] start new in
    subst P same (record {
      requests = [];
      split = append-nil new.request;
      lines = λ k d below. absurd (omega arith);
      rest = line;
      answered = sym (append-nil new.pending);
    })

-- one line more
pub lines_with_feeds-more : (lines : List (List ℕ)) (line : List ℕ)
    → lines_with_feeds (lines ++ line ∷ []) ≡ lines_with_feeds lines ++ (line ++ 10 ∷ [])
lines_with_feeds-more lines line =
    flat_map-append (λ l. l ++ 10 ∷ []) lines (line ∷ []) ∙ ap (λ tail. lines_with_feeds lines ++ tail) (append-nil (line ++ 10 ∷ []))

single : (line : List ℕ) → IsLine line → All IsLine (line ∷ [])
single line here zero d below = here
single line here (suc k) d below = absurd (omega arith)

-- a request that became whole
ended : (answers : List ℕ → List ℕ) (bytes : List ℕ) (old now : ReplyState)
    → Replies answers bytes old now
    → Replies answers (bytes ++ 10 ∷ []) old (record { request = []; pending = now.pending ++ (answers now.request ++ 10 ∷ []) })
ended answers bytes old now so_far = record {
  requests = so_far.requests ++ now.request ∷ [];
  split =
      sym (append_assoc old.request bytes (10 ∷ [])) ∙ ap (λ front. front ++ 10 ∷ []) so_far.split
      ∙ append_assoc (lines_with_feeds so_far.requests) now.request (10 ∷ []) ∙ sym (lines_with_feeds-more so_far.requests now.request)
      ∙ sym (append-nil (lines_with_feeds (so_far.requests ++ now.request ∷ [])));
  lines = All-append IsLine so_far.requests (now.request ∷ []) so_far.lines (single now.request so_far.rest);
  rest = refl;
  answered =
      ap (λ front. front ++ (answers now.request ++ 10 ∷ [])) so_far.answered
      ∙ append_assoc old.pending (lines_with_feeds (map answers so_far.requests)) (answers now.request ++ 10 ∷ [])
      ∙ ap (λ tail. old.pending ++ tail) (sym (lines_with_feeds-more (map answers so_far.requests) (answers now.request))
      ∙ ap lines_with_feeds (sym (map-append answers so_far.requests (now.request ∷ []))));
}

-- a byte of a request
continued : (answers : List ℕ → List ℕ) (bytes : List ℕ) (byte : ℕ) (old now : ReplyState)
    → (byte == 10) ≡ false
    → Replies answers bytes old now
    → Replies answers (bytes ++ byte ∷ []) old (record { request = now.request ++ byte ∷ []; pending = now.pending })
continued answers bytes byte old now other so_far = record {
  requests = so_far.requests;
  split =
      sym (append_assoc old.request bytes (byte ∷ [])) ∙ ap (λ front. front ++ byte ∷ []) so_far.split
      ∙ append_assoc (lines_with_feeds so_far.requests) now.request (byte ∷ []);
  lines = so_far.lines;
  rest =
      rw (list_any-append (λ x. x == 10) now.request (byte ∷ [])) (rw so_far.rest (rw other refl));
  answered = so_far.answered;
}

by_case : (b : Bool) (answers : List ℕ → List ℕ) (bytes : List ℕ) (byte : ℕ) (old now new : ReplyState)
    → (byte == 10) ≡ b
    → Replies answers bytes old now
    → new
    ≡ (if b then record { request = []; pending = now.pending ++ (answers now.request ++ 10 ∷ []) }
    else record { request = now.request ++ byte ∷ []; pending = now.pending })
    → Replies answers (bytes ++ byte ∷ []) old new
by_case true answers bytes byte old now new test so_far same =
    let P : ReplyState → Type 0 = λ reply. Replies answers (bytes ++ byte ∷ []) old reply in
    subst P (sym same) (rw (eqb-true byte 10 test) (ended answers bytes old now so_far))
by_case false answers bytes byte old now new test so_far same =
    let P : ReplyState → Type 0 = λ reply. Replies answers (bytes ++ byte ∷ []) old reply in
    subst P (sym same) (continued answers bytes byte old now test so_far)

-- one byte more was heard
pub heard_byte : (answers : List ℕ → List ℕ) (bytes : List ℕ) (byte : ℕ) (old now new : ReplyState)
    → Replies answers bytes old now
    → HearsByte answers byte now new → Replies answers (bytes ++ byte ∷ []) old new
heard_byte answers bytes byte old now new so_far here =
    by_case (byte == 10) answers bytes byte old now new refl so_far here
