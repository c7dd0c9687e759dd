-- How numbers are hashed.
use Rattle.std.specs.Prelude.{ℕ, ◌+◌, ◌*◌, ◌/◌, ◌%◌, ◌^◌, ◌==◌, if◌then◌else◌, List, [], ◌∷◌, length, fold, slice_index, bit_xor}
use Rattle.std.specs.Int.{w32, w64, from_le_bytes}

-- the state after one number more
abbrev pub hashed_with : ℕ → ℕ → ℕ
hashed_with state number = ((state * 0x9e37_79b9_7f4a_7c15) % 2 ^ 64 + number) % 2 ^ 64

-- The state after bytes. Four and eight are one number, the lowest byte first, and of others each byte is one.
abbrev pub written : ℕ → List ℕ → ℕ
written state bytes =
    let at : ℕ → ℕ = slice_index bytes in
    if length bytes == 4 then hashed_with state (from_le_bytes w32 (at 0 ∷ at 1 ∷ at 2 ∷ at 3 ∷ [])) else
    if length bytes == 8 then
    hashed_with state (from_le_bytes w64 (at 0 ∷ at 1 ∷ at 2 ∷ at 3 ∷ at 4 ∷ at 5 ∷ at 6 ∷ at 7 ∷ []))
    else fold hashed_with state bytes

-- the hash: the upper half of one more product, of the state with its upper half in the lower one too
abbrev pub finished : ℕ → ℕ
finished state = (bit_xor state (state / 2 ^ 32) * 0x9e37_79b9_7f4a_7c15) % 2 ^ 64 / 2 ^ 32
