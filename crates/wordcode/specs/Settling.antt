-- The answer that follows from the one inner codeword near y: it is the v of two messages, one for each u.
use Rattle.std.specs.Prelude.{ℕ, ◌+◌, ◌-◌, Bool, true, false, cond, not, List, ◌∷◌, take, drop, Some, None, Option, ◌==◌, nat_le, slice_index_or}
use Rattle.wordcode.specs.declared.settle.Choice.{Choice}
use Rattle.gf2.specs.declared.field.Field.{Field}
use Rattle.gf2.specs.Words.{add, weight}
use Rattle.gf2.specs.Fields.{width}
use Rattle.pagecode.specs.InnerData.{lead, each}
use Rattle.wordcode.specs.Codeword.{f_bits}
use Rattle.wordcode.specs.Reading.{Answer, gives, unreadable}

-- the message of u and the data bits d of v
abbrev pub message_of : Bool → List Bool → List Bool
message_of u d = u ∷ lead u d

abbrev pub choice : Bool → ℕ → Bool → Option Choice
choice u d o = Some (record { u = u; reading = record { distance = d; over = o } })

-- which u the rules choose. near: the distance of the word from the codeword with u = x, the word's first bit; far: from the one with the other
-- u; same: whether the word's last bits are those of the other
abbrev pub chosen : ℕ → Bool → ℕ → ℕ → Bool → Option Choice
chosen t x near far same = cond (nat_le near t) (choice x near false) (cond (nat_le far t) (choice (not x) far false) (cond same (choice (not x) far true) None))

-- the answer with that choice, d the data bits of v
abbrev pub answer_with : List Bool → Option Choice → Answer
answer_with d None = unreadable
answer_with d (Some c) = gives (message_of c.u d) c.reading.distance c.reading.over

-- how many of a word's last r2 bits differ from those of the codeword with u = x, the word's first bit, whose inner codeword is v, at the front
abbrev pub last_bits_apart : (k1 r1 : ℕ) → Field → List Bool → List Bool → ℕ
last_bits_apart k1 r1 F word front =
    weight (add (each (slice_index_or word 0 false) (take (width F) (drop (1 + (k1 + r1)) word))) (f_bits F (take k1 front)))

-- e: the distance of v from y, and e1 the same with the first bit of y turned; b: how many of the last r2 bits differ from those of the
-- codeword with u = x
abbrev pub chosen_by : ℕ → ℕ → Bool → ℕ → ℕ → ℕ → Option Choice
chosen_by t r2 x e e1 b = chosen t x (e + b) (1 + e1 + (r2 - b)) (b == r2)

abbrev pub settled : ℕ → ℕ → Bool → List Bool → ℕ → ℕ → ℕ → Answer
settled t r2 x d e e1 b = answer_with d (chosen_by t r2 x e e1 b)
