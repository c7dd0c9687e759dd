-- Requests that are lines, and their answers.
use Rattle.lemmas.specs.Lists.{lines_with_feeds}
use Rattle.std.specs.Prelude.{◌≡◌, ℕ, true, false, List, [], ◌∷◌, ◌++◌, ◌==◌, map, length, if◌then◌else◌}
use Rattle.std.specs.List.{list_any, All}

-- no line feed is among these bytes
abbrev pub IsLine : List ℕ → Type 0
IsLine bytes = list_any (λ byte. byte == 10) bytes ≡ false

-- a line feed is among these bytes
abbrev pub HasLine : List ℕ → Type 0
HasLine bytes = list_any (λ byte. byte == 10) bytes ≡ true

-- `end` and a line feed
abbrev pub end_line : List ℕ
end_line = 101 ∷ 110 ∷ 100 ∷ 10 ∷ []

-- the bytes of a request that has no line feed yet, and the bytes of answers that weren't given yet
pub record ReplyState : Type 0 where
  pub request : List ℕ
  pub pending : List ℕ

-- a child that was just started
abbrev pub no_reply : ReplyState
no_reply = record { request = []; pending = [] }

-- a byte more: a line feed ends a request, which is answered
abbrev pub HearsByte : (List ℕ → List ℕ) → ℕ → ReplyState → ReplyState → Type 0
HearsByte answers byte old new =
    new
    ≡ (if byte == 10 then record { request = []; pending = old.pending ++ (answers old.request ++ 10 ∷ []) }
    else record { request = old.request ++ byte ∷ []; pending = old.pending })

-- with these bytes so many requests became whole, and each was answered
pub record Replies (answers : List ℕ → List ℕ) (bytes : List ℕ) (old new : ReplyState) : Type 0 where
  pub requests : List (List ℕ)
  pub split : old.request ++ bytes ≡ lines_with_feeds requests ++ new.request
  pub lines : All IsLine requests
  pub rest : IsLine new.request
  pub answered : new.pending ≡ old.pending ++ lines_with_feeds (map answers requests)

-- what the next read may give: the answers that are pending, and `end` where none is
abbrev pub next_bytes : ReplyState → List ℕ
next_bytes reply = if length reply.pending == 0 then end_line else reply.pending
