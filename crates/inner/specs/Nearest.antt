-- What the search for the codeword at most t bits away owes.
use Rattle.std.specs.Prelude.{◌≡◌, ℕ, ◌≤◌, Bool, List, length, take, drop, Some, None, Option}
use Rattle.gf2.specs.Words.{distance}

-- c is a codeword at most t bits from the word
pub record Near (t : ℕ) (Codeword : List Bool → Type 0) (word c : List Bool) : Type 0 where
  pub code : Codeword c
  pub near : distance word c ≤ t

-- the first n bits are now the codeword at most t bits away, `flips` of them were changed, and the rest is as it was
pub record Corrected (n t : ℕ) (Codeword : List Bool → Type 0) (before after : List Bool) (flips : ℕ) : Type 0 where
  pub enough : n ≤ length before
  pub near : Near t Codeword (take n before) (take n after)
  pub counts : flips ≡ distance (take n before) (take n after)
  pub rest : drop n after ≡ drop n before

-- there are too few bits, or no codeword is at most t bits away; nothing has changed
pub record LeftAlone (n t : ℕ) (Codeword : List Bool → Type 0) (before after : List Bool) : Type 0 where
  pub same : after ≡ before
  pub none : n ≤ length before → (c : List Bool) → Near t Codeword (take n before) c → ⊥

abbrev pub Nearest : ℕ → ℕ → (List Bool → Type 0) → List Bool → List Bool → Option ℕ → Type 0
Nearest n t Codeword before after (Some flips) = Corrected n t Codeword before after flips
Nearest n t Codeword before after None = LeftAlone n t Codeword before after
