-- A value that runs over the bits of a word.
use Rattle.std.proofs.Common.{◌≡◌, ℕ, ◌+◌, ◌<◌, Bool, false, cond, List, [], ◌∷◌, ◌++◌, length, get_or, take, sym, refl, ap, ◌∙◌}
use lib.Bits.{bit_xor}
use Rattle.std.proofs.lemmas.List.{take_more}
use Rattle.bch.specs.Checks.{running}

module _ (step : ℕ → ℕ) (e : ℕ) where
  -- over one word and then another
  pub on : (s : ℕ) (u v : List Bool) → running step e s (u ++ v) ≡ running step e (running step e s u) v
  unfolding running
  on s [] v = refl
  on s (b ∷ u) v = on (bit_xor (step s) (cond b e 0)) u v

  bit : (s : ℕ) (b : Bool) → running step e s (b ∷ []) ≡ bit_xor (step s) (cond b e 0)
  unfolding running
  bit s b = refl

  -- one bit more
  pub turn : (z s v : ℕ) (w : List Bool) (i : ℕ) → i < length w → v ≡ bit_xor (step s) (cond (get_or w i false) e 0) → s ≡ running step e z (take i w)
      → v ≡ running step e z (take (i + 1) w)
  turn z s v w i h is inv =
      is ∙ ap (λ (x : ℕ). bit_xor (step x) (cond (get_or w i false) e 0)) inv
      ∙ sym (ap (running step e z) (take_more w i false h) ∙ on z (take i w) (get_or w i false ∷ []) ∙ bit (running step e z (take i w)) (get_or w i false))
