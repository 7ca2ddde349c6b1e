-- What the search for the codeword at most t bits away owes: what any inner code's owes, at the code's values.
use Rattle.std.specs.Prelude.{ℕ, Bool, List, Option}
use Rattle.inner.specs.Nearest as general
use Rattle.bch.specs.declared.code.Bch.{Bch}
use Rattle.bch.specs.InnerLaws.{WordOf}
use Rattle.bch.specs.Settings.{errors, word_bits}

-- c is a codeword at most t bits from the word
abbrev pub Near : Bch → List Bool → List Bool → Type 0
Near C = general.Near (errors C) (WordOf C)

-- the first bits are now the codeword at most t bits away, `flips` of them were changed, and the rest is as it was
abbrev pub Corrected : Bch → List Bool → List Bool → ℕ → Type 0
Corrected C = general.Corrected (word_bits C) (errors C) (WordOf C)

-- there are too few bits, or no codeword is at most t bits away; nothing has changed
abbrev pub LeftAlone : Bch → List Bool → List Bool → Type 0
LeftAlone C = general.LeftAlone (word_bits C) (errors C) (WordOf C)

abbrev pub Nearest : Bch → List Bool → List Bool → Option ℕ → Type 0
Nearest C = general.Nearest (word_bits C) (errors C) (WordOf C)
