-- Words in whole bytes: as many bytes as hold the bits, and the spare last bits zero.
use Rattle.std.specs.Prelude.{ℕ, ◌-◌, Bool, false, cond, List, ◌++◌, length, drop, replicate, Ok, Err, Result, ◌==◌}
use Rattle.gf2.specs.Words.{weight, bits}
use Rattle.inner.specs.Pages.{bytes_for}

abbrev pub whole_bytes : ℕ → List ℕ → Bool
whole_bytes n bytes = length bytes == bytes_for n

-- no bit behind the first n is set
abbrev pub spare_clear : ℕ → List ℕ → Bool
spare_clear n bytes = weight (drop n (bits bytes)) == 0

-- what a call first says that takes n bits and fills a buffer for m bits: 2 for a wrong length of either, then 7 for a spare bit that is set
abbrev pub checked : ℕ → ℕ → List ℕ → List ℕ → Result (Unit {0}) ℕ
checked n m source buffer =
    cond (whole_bytes n source) (cond (whole_bytes m buffer) (cond (spare_clear n source) (Ok tt) (Err 7)) (Err 2)) (Err 2)

-- the word and zero bits behind it, n bits in all
abbrev pub padded : ℕ → List Bool → List Bool
padded n w = w ++ replicate (n - length w) false
