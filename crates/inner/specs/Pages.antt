-- The sizes of words and pages over an inner code. A page holds a word and then the mark, zero bits that tell a written page from a blank one.
use Rattle.std.specs.Prelude.{ℕ, ◌+◌, ◌-◌, ◌*◌, ◌/◌}

-- n, the bits of a word: u, the inner codeword, and the r2 nonlinear bits
abbrev pub word_bits : ℕ → ℕ → ℕ → ℕ
word_bits k1 r1 r2 = 1 + (k1 + r1) + r2

-- the bytes that hold so many bits
abbrev pub bytes_for : ℕ → ℕ
bytes_for n = (n + 7) / 8

-- W, the bytes of a page: the word and a mark of at least 2t + 1 bits
abbrev pub page_bytes : ℕ → ℕ → ℕ → ℕ → ℕ
page_bytes k1 r1 t r2 = bytes_for (word_bits k1 r1 r2 + (2 * t + 1))

-- M, the bits of the mark
abbrev pub mark_bits : ℕ → ℕ → ℕ → ℕ → ℕ
mark_bits k1 r1 t r2 = 8 * page_bytes k1 r1 t r2 - word_bits k1 r1 r2
