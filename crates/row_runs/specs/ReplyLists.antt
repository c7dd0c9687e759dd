-- How children answer by a list of requests.
use Rattle.std.specs.Prelude.{◌==◌, ℕ, List, [], ◌∷◌, Vec, bytes_eq, codes, if◌then◌else◌}
use Rattle.std.specs.List.{list_any}
use Rattle.std.specs.declared.alloc.Global.{Global}

-- the bytes, or `end` where a line feed stands among them
abbrev pub line_of_bytes : List ℕ → List ℕ
line_of_bytes bytes = if list_any (λ byte. byte == 10) bytes then codes "end" else bytes

-- the line behind the first such request, and `end` where there is none
abbrev pub reply_in_list : List (Vec ℕ Global × Vec ℕ Global) → List ℕ → List ℕ
reply_in_list [] request = codes "end"
reply_in_list (reply ∷ replies) request =
    if bytes_eq reply.0.items request then line_of_bytes reply.1.items else reply_in_list replies request
