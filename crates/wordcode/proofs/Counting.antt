-- Set bits counted place by place.
use Rattle.std.proofs.Common.{◌≡◌, ℕ, zero, suc, ◌+◌, ◌-◌, ◌*◌, ◌≤◌, Bool, true, false, cond, List, ◌∷◌, length, get_or, drop, sym, ap, ◌∙◌, arith}
use Rattle.std.proofs.lemmas.List.{drop_more, drop_all}
use Rattle.std.proofs.lemmas.List.Sums.{sum_by-cons, count_by-le-length}
use Rattle.std.proofs.lemmas.List.FromFn.{length-range_with_len}
use Rattle.std.specs.List.{count_by, range_with_len}
use Rattle.gf2.specs.Words.{weight, bits}
use Rattle.gf2.proofs.Places.{bits_length}

one_more : (b : Bool) (w : List Bool) → weight (b ∷ w) ≡ cond b 1 0 + weight w
one_more true w = omega arith
one_more false w = omega arith

-- the set bits behind the first a, n bits in all
pub counted : (w : List Bool) (a n : ℕ) → n ≡ length w - a → count_by (λ (i : ℕ). get_or w i false) (range_with_len a n) ≡ weight (drop a w)
counted w a zero e = sym (ap weight (drop_all a w (omega arith)))
counted w a (suc n) e =
    sum_by-cons (λ (i : ℕ). cond (get_or w i false) 1 0) a (range_with_len (a + 1) n)
    ∙ ap (λ (m : ℕ). cond (get_or w a false) 1 0 + m) (counted w (a + 1) n (omega arith))
    ∙ sym (ap weight (drop_more w a false (omega arith)) ∙ one_more (get_or w a false) (drop (a + 1) w))

-- the same for bytes
pub counted_bytes : (bs : List ℕ) (a : ℕ) → count_by (λ (i : ℕ). get_or (bits bs) i false) (range_with_len a (8 * length bs - a)) ≡ weight (drop a (bits bs))
counted_bytes bs a = counted (bits bs) a (8 * length bs - a) (omega (arith, bits_length bs))

pub at_most : (bs : List ℕ) (a : ℕ) → weight (drop a (bits bs)) ≤ 8 * length bs
at_most bs a =
    omega (
      arith,
      counted_bytes bs a,
      count_by-le-length (λ (i : ℕ). get_or (bits bs) i false) (range_with_len a (8 * length bs - a)),
      length-range_with_len a (8 * length bs - a),
    )
