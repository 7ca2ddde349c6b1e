-- Which flips pass unseen. A flip pattern has the bits of a word; it passes a codeword if their sum is a codeword.
use Rattle.std.specs.Prelude.{◌≡◌, ℕ, zero, suc, ◌+◌, ◌-◌, ◌/◌, ◌<◌, Bool, true, false, ◌≢◌, List, ◌∷◌, ◌++◌, length, take, drop, replicate}
use Rattle.gf2.specs.declared.field.Field.{Field}
use Rattle.gf2.specs.Words.{add, weight}
use Rattle.gf2.specs.Fields.{width}
use Rattle.inner.specs.Pages.{word_bits}
use Rattle.wordcode.specs.Codeword.{codeword}

-- the pattern turns the message's codeword into a codeword
abbrev pub Passes : ℕ → Field → (List Bool → List Bool) → List Bool → List Bool → Type 0
Passes k1 F checks pattern message =
    (other : List Bool) × (length other ≡ k1 + 1) × (add (codeword F checks message) pattern ≡ codeword F checks other)

-- bits 1 and 2 and the last r2 bits, of a word with n1 bits between the first and the last r2
abbrev pub first_two_and_last : ℕ → ℕ → List Bool
first_two_and_last n1 r2 = true ∷ (true ∷ (replicate (n1 - 1) false ++ replicate r2 true))

-- w, cut in order into groups of r bits, with s in place of group g, counted from 0
abbrev pub filled : ℕ → ℕ → List Bool → List Bool → List Bool
filled r zero s w = s ++ drop r w
filled r (suc g) s w = take r w ++ filled r g s (drop r w)

-- exactly one word of r bits
abbrev pub ExactlyOne : ℕ → (List Bool → Type 0) → Type 0
ExactlyOne r P = (s : List Bool) × (length s ≡ r) × P s × ((o : List Bool) → length o ≡ r → P o → o ≡ s)

pub record FlipLaw (k1 r1 : ℕ) (F : Field) (checks : List Bool → List Bool) : Type 0 where
  pub the_pattern_is_as_long_as_a_word : length (first_two_and_last (k1 + r1) (width F)) ≡ word_bits k1 r1 (width F)
  pub it_passes_every_codeword : (m : List Bool) → length m ≡ k1 + 1 → Passes k1 F checks (first_two_and_last (k1 + r1) (width F)) m
  pub no_other_passes_every_codeword : (e : List Bool) → length e ≡ word_bits k1 r1 (width F) → 0 < weight e
      → ((m : List Bool) → length m ≡ k1 + 1 → Passes k1 F checks e m) → e ≡ first_two_and_last (k1 + r1) (width F)
  -- bits 2 to k of the message are cut into groups of r2; with the rest of the message fixed in any way, one filling of the group lets the pattern pass
  pub any_other_passes_one_filling_of_a_group : (e : List Bool) → length e ≡ word_bits k1 r1 (width F) → 0 < weight e
      → e ≢ first_two_and_last (k1 + r1) (width F) → (m : List Bool) → length m ≡ k1 + 1 → Passes k1 F checks e m
      → (g : ℕ) × (g < k1 / width F) × ((u : Bool) (w : List Bool) → length w ≡ k1 → ExactlyOne (width F) (λ s. Passes k1 F checks e (u ∷ filled (width F) g s w)))
