-- Bits by their numbers, and the bits of bytes: bit number i + 1 stands at i.
use Rattle.std.proofs.Common.{◌≡◌, ℕ, zero, suc, ◌-◌, ◌/◌, ◌%◌, ◌^◌, ◌<◌, ◌≤◌, Bool, true, false, not, eqb, ◌≢◌, List, [], ◌∷◌, length, get_or, set, Some, None, sym, refl, ap, ◌∙◌, ap₂, le_of_suc-le-suc, not-suc-le-zero, mod-lt, zero-lt-suc, div-add-mod', arith}
use lib.Bits.{bit_xor}
use Rattle.gf2.specs.Words.{bits, bit_number, flipped}
use Rattle.gf2.proofs.Places.{bits_at, bits_set, bits_length}

pub bit_number_zero : (w : List Bool) → bit_number w 0 ≡ None
bit_number_zero [] = refl
bit_number_zero (b ∷ w) = refl

pub bit_number_at : (w : List Bool) (i : ℕ) → i < length w → bit_number w (suc i) ≡ Some (get_or w i false)
bit_number_at [] i h = absurd (not-suc-le-zero h)
bit_number_at (b ∷ w) zero h = refl
bit_number_at (b ∷ w) (suc i) h = bit_number_at w i (le_of_suc-le-suc h)

pub bit_number_past : (w : List Bool) (i : ℕ) → length w ≤ i → bit_number w (suc i) ≡ None
bit_number_past [] i h = refl
bit_number_past (b ∷ w) zero h = absurd (not-suc-le-zero h)
bit_number_past (b ∷ w) (suc i) h = bit_number_past w i (le_of_suc-le-suc h)

-- a word without that bit is left as it is
pub flipped_none : (w : List Bool) (i : ℕ) → bit_number w i ≡ None → flipped w i ≡ w
flipped_none [] i h = refl
flipped_none (b ∷ w) zero h = refl
flipped_none (b ∷ w) (suc zero) h = let z : ◌≡◌ {A = ℕ} 0 1 = cc in absurd (omega arith)
flipped_none (b ∷ w) (suc (suc i)) h = ap (λ (r : List Bool). b ∷ r) (flipped_none w (suc i) h)

-- a flipped bit is the other
pub flipped_bit : (w : List Bool) (i : ℕ) (b : Bool) → bit_number w i ≡ Some b → bit_number (flipped w i) i ≡ Some (not b)
flipped_bit [] i b h = let z : ◌≡◌ {A = ℕ} 0 1 = cc in absurd (omega arith)
flipped_bit (d ∷ w) zero b h = let z : ◌≡◌ {A = ℕ} 0 1 = cc in absurd (omega arith)
flipped_bit (d ∷ w) (suc zero) b h = let e : d ≡ b = cc in ap (λ (x : Bool). Some (not x)) e
flipped_bit (d ∷ w) (suc (suc i)) b h = flipped_bit w (suc i) b h

-- a word with bit number i has at least i bits, and i is not 0
pub within : (w : List Bool) (i : ℕ) (b : Bool) → bit_number w i ≡ Some b → (0 < i) × (i ≤ length w)
within [] i b h = let z : ◌≡◌ {A = ℕ} 0 1 = cc in absurd (omega arith)
within (d ∷ w) zero b h = let z : ◌≡◌ {A = ℕ} 0 1 = cc in absurd (omega arith)
within (d ∷ w) (suc zero) b h = (omega arith, omega arith)
within (d ∷ w) (suc (suc i)) b h = let r = within w (suc i) b h in (omega arith, omega arith)

-- a bit that is there, flipped where it stands
pub flipped_at_number : (w : List Bool) (i : ℕ) (b : Bool) → bit_number w i ≡ Some b → flipped w i ≡ set w (i - 1) (not b)
flipped_at_number [] i b h = let z : ◌≡◌ {A = ℕ} 0 1 = cc in absurd (omega arith)
flipped_at_number (d ∷ w) zero b h = let z : ◌≡◌ {A = ℕ} 0 1 = cc in absurd (omega arith)
flipped_at_number (d ∷ w) (suc zero) b h = let e : d ≡ b = cc in ap (λ (x : Bool). not x ∷ w) e
flipped_at_number (d ∷ w) (suc (suc i)) b h =
    ap (λ (r : List Bool). d ∷ r) (flipped_at_number w (suc i) b h ∙ ap (λ (j : ℕ). set w j (not b)) (let e : suc i - 1 ≡ i = omega arith in e))
    ∙ ap (λ (j : ℕ). set (d ∷ w) j (not b)) (let e : suc i ≡ suc (suc i) - 1 = omega arith in e)

-- the bit of the byte at place / 8
pub byte_bit : (bs : List ℕ) (place : ℕ) → place / 8 < length bs → get_or (bits bs) place false ≡ eqb (get_or bs (place / 8) 0 / 2 ^ (7 - place % 8) % 2) 1
byte_bit bs place h = ap (λ (k : ℕ). get_or (bits bs) k false) (sym (div-add-mod' place 8)) ∙ bits_at bs (place / 8) (place % 8) h (mod-lt place (zero-lt-suc 7))

-- the byte with one bit turned
pub byte_put : (bs : List ℕ) (place : ℕ) (wanted : Bool) → place / 8 < length bs → get_or (bits bs) place false ≢ wanted
    → bits (set bs (place / 8) (bit_xor (get_or bs (place / 8) 0) (2 ^ (7 - place % 8)))) ≡ set (bits bs) place wanted
byte_put bs place wanted h ne =
    bits_set bs (place / 8) (place % 8) h (mod-lt place (zero-lt-suc 7))
    ∙ ap₂ (set (bits bs)) (div-add-mod' place 8) (ap not (sym (byte_bit bs place h)) ∙ other (get_or (bits bs) place false) wanted ne)
  where
    other : (a b : Bool) → a ≢ b → not a ≡ b
    other true true ne = absurd (ne refl)
    other true false ne = refl
    other false true ne = refl
    other false false ne = absurd (ne refl)

pub inside_bytes : (bs : List ℕ) (place : ℕ) → place / 8 < length bs → place < length (bits bs)
inside_bytes bs place h = omega (arith, bits_length bs)

pub past_bytes : (bs : List ℕ) (place : ℕ) → length bs ≤ place / 8 → length (bits bs) ≤ place
past_bytes bs place h = omega (arith, bits_length bs)
