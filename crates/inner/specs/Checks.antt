-- What writing the check bits behind the data bits does to a word.
use Rattle.std.specs.Prelude.{ℕ, ◌+◌, Bool, cond, List, ◌++◌, length, take, drop, nat_le}

-- whether there are bits enough for a codeword
abbrev pub room_for_checks : ℕ → ℕ → List Bool → Bool
room_for_checks k1 r1 w = nat_le (k1 + r1) (length w)

-- the word with the check bits of its first k1 bits behind them, or as it was where there are too few bits
abbrev pub with_checks : ℕ → ℕ → (List Bool → List Bool) → List Bool → List Bool
with_checks k1 r1 checks w = cond (room_for_checks k1 r1 w) (take k1 w ++ (checks (take k1 w) ++ drop (k1 + r1) w)) w
