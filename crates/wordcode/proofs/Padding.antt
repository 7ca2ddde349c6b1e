-- Words with zero bits behind them, and runs written there.
use Rattle.std.proofs.Common.{◌≡◌, ℕ, zero, suc, ◌+◌, ◌-◌, ◌*◌, ◌≤◌, Bool, false, List, ◌++◌, length, take, drop, replicate, sym, refl, ap, ◌∙◌, ap₂, suc-mul, arith, length-append, length-drop, take-append-drop, drop-drop, take_at, drop_at}
use lib.ListN.{length-replicate, replicate-append-replicate}
use lib.Seq.{take-append-le, take-append-add, drop-append-add}
use Rattle.std.proofs.lemmas.List.{append_assoc, take-replicate, drop-replicate, length-take-le}
use Rattle.gf2.specs.Words.{weight, bits, bits_of, with_run}
use Rattle.gf2.proofs.Sums.{no_weight}
use Rattle.gf2.proofs.Places.{bits_length, bits_append}
use Rattle.wordcode.specs.Bytes.{padded}

-- a run written directly behind the word
pub padded_run : (n at : ℕ) (p s : List Bool) → length p ≡ at → with_run at s (padded n p) ≡ padded n (p ++ s)
padded_run n at p s h =
    ap₂ (λ (v w : List Bool). v ++ (s ++ w)) (take_at p z at h) behind ∙ sym (append_assoc p s (replicate (n - length (p ++ s)) false))
  where
    z : List Bool
    z = replicate (n - length p) false

    behind : drop (at + length s) (p ++ z) ≡ replicate (n - length (p ++ s)) false
    behind =
        sym (drop-drop (length s) at (p ++ z)) ∙ ap (drop (length s)) (drop_at p z at h) ∙ drop-replicate (length s) (n - length p) false
        ∙ ap (λ (i : ℕ). replicate i false) (let e : n - length p - length s ≡ n - length (p ++ s) = omega (arith, length-append p s) in e)

pub bits_of_zeros : (n : ℕ) → bits (replicate n 0) ≡ replicate (n * 8) false
unfolding bits bits_of
bits_of_zeros zero = refl
bits_of_zeros (suc n) = ap (λ (w : List Bool). replicate 8 false ++ w) (bits_of_zeros n) ∙ replicate-append-replicate 8 (n * 8) false
    ∙ ap (λ (i : ℕ). replicate i false) (let e : 8 + n * 8 ≡ suc n * 8 = omega (arith, suc-mul n 8) in e)

-- bytes whose bits behind the first k are zero, with zero bytes behind them
pub bytes_padded : (k N : ℕ) (ms : List ℕ) → k ≤ length (bits ms) → weight (drop k (bits ms)) ≡ 0 → length ms ≤ N
    → bits (ms ++ replicate (N - length ms) 0) ≡ padded (N * 8) (take k (bits ms))
bytes_padded k N ms h none fit =
    bits_append ms (replicate (N - length ms) 0) ∙ ap₂ (λ (v w : List Bool). v ++ w) front (bits_of_zeros (N - length ms))
    ∙ append_assoc M (replicate a false) (replicate ((N - length ms) * 8) false)
    ∙ ap (λ (w : List Bool). M ++ w)
    (replicate-append-replicate a ((N - length ms) * 8) false
    ∙ ap (λ (i : ℕ). replicate i false)
    (let e : a + (N - length ms) * 8 ≡ N * 8 - length M = omega (arith, bits_length ms, length-take-le k (bits ms) h, length-drop k (bits ms)) in e))
  where
    M : List Bool
    M = take k (bits ms)

    a : ℕ
    a = length (drop k (bits ms))

    front : bits ms ≡ M ++ replicate a false
    front = sym (take-append-drop k (bits ms)) ∙ ap (λ (w : List Bool). M ++ w) (no_weight (drop k (bits ms)) none)

pub run_length : (at : ℕ) (s w : List Bool) → at + length s ≤ length w → length (with_run at s w) ≡ length w
run_length at s w h =
    omega (arith, length-append (take at w) (s ++ drop (at + length s) w), length-append s (drop (at + length s) w), length-take-le at w (omega arith), length-drop (at + length s) w)

-- a padded word's first bits, and those behind them
pub padded_take : (n N : ℕ) (w : List Bool) → length w ≤ n → n ≤ N → take n (padded N w) ≡ padded n w
padded_take n N w h l =
    ap (λ (i : ℕ). take i (padded N w)) (let e : n ≡ length w + (n - length w) = omega arith in e)
    ∙ take-append-add w (replicate (N - length w) false) (n - length w)
    ∙ ap (λ (z : List Bool). w ++ z) (take-replicate (n - length w) (N - length w) false (omega arith))

pub padded_behind : (n N : ℕ) (w : List Bool) → length w ≤ n → drop n (padded N w) ≡ replicate (N - n) false
padded_behind n N w h =
    ap (λ (i : ℕ). drop i (padded N w)) (let e : n ≡ length w + (n - length w) = omega arith in e)
    ∙ drop-append-add w (replicate (N - length w) false) (n - length w) ∙ drop-replicate (n - length w) (N - length w) false
    ∙ ap (λ (i : ℕ). replicate i false) (let e : N - length w - (n - length w) ≡ N - n = omega arith in e)

pub padded_more : (n N : ℕ) (w : List Bool) → length w ≤ n → n ≤ N → padded n w ++ replicate (N - n) false ≡ padded N w
padded_more n N w h l =
    append_assoc w (replicate (n - length w) false) (replicate (N - n) false)
    ∙ ap (λ (z : List Bool). w ++ z)
    (replicate-append-replicate (n - length w) (N - n) false
    ∙ ap (λ (i : ℕ). replicate i false) (let e : n - length w + (N - n) ≡ N - length w = omega arith in e))

-- bytes with zero bytes behind them
pub bits_padded : (N : ℕ) (ds : List ℕ) → bits (ds ++ replicate (N - length ds) 0) ≡ padded (N * 8) (bits ds)
bits_padded N ds =
    bits_append ds (replicate (N - length ds) 0)
    ∙ ap (λ (w : List Bool). bits ds ++ w)
    (bits_of_zeros (N - length ds)
    ∙ ap (λ (i : ℕ). replicate i false) (let e : (N - length ds) * 8 ≡ N * 8 - length (bits ds) = omega (arith, bits_length ds) in e))

-- zeros written over the last bits of a padded word
pub padded_cut : (n s N : ℕ) (w : List Bool) → length w ≡ n + s → n + s ≤ N → with_run n (replicate s false) (padded N w) ≡ padded N (take n w)
padded_cut n s N w h l =
    ap₂ (λ (v z : List Bool). v ++ (replicate s false ++ z)) (take-append-le n w (replicate (N - length w) false) (omega arith))
    (padded_behind (n + length (replicate s false)) N w (omega (arith, length-replicate {A = Bool} s false)))
    ∙ ap (λ (z : List Bool). take n w ++ z)
    (replicate-append-replicate s (N - (n + length (replicate s false))) false
    ∙ ap (λ (i : ℕ). replicate i false)
    (let e : s + (N - (n + length (replicate s false))) ≡ N - length (take n w) = omega (arith, length-replicate {A = Bool} s false, length-take-le n w (omega arith)) in e))
