use Rattle.std.proofs.Common.{rules, tests, zero, suc, fold, mod-eq_of_lt, ◌≡◌, ℕ, ◌+◌, ◌-◌, ◌*◌, ◌/◌, ◌%◌, ◌^◌, ◌<◌, ◌≤◌, Bool, true, false, cond, List, length, get_or, take, drop, Some, sym, ap, ◌∙◌, ap₂, arith, length-drop, pow_mono, refl}
use Rattle.std.specs.List.{range_with_len}
use Rattle.std.proofs.lemmas.Iterator.{YieldsList-from_range}
use Rattle.std.proofs.lemmas.Iterator.Consumers.{fold_from_yields_List}
use Rattle.std.proofs.lemmas.List.{get_or-drop, take_more, length-take-le}
use mir.Val.{bool_byte}
use Rattle.gf2.specs.Words.{bits, number}
use Rattle.gf2.proofs.Sums.{number_push, number_lt}
use Rattle.gf2.proofs.Places.{bits_length, bits_from}
use Rattle.gf2.proofs.Windows.{no_number, that_number}
use Rattle.gf2.proofs.bits.wide_number.Goals as goal

-- one more bit
push : (w : List Bool) (s i : ℕ) → s + i < length w → number (take i (drop s w)) * 2 + cond (get_or w (s + i) false) 1 0 ≡ number (take (i + 1) (drop s w))
push w s i h =
    ap (λ (b : Bool). number (take i (drop s w)) * 2 + cond b 1 0) (sym (get_or-drop s w i false))
    ∙ sym (ap number (take_more (drop s w) i false (omega (arith, length-drop s w))) ∙ number_push (take i (drop s w)) (get_or (drop s w) i false))

-- what a bit is as a number
as_number : (b : Bool) → bool_byte b ≡ cond b 1 0
as_number true = refl
as_number false = refl

-- the bits from a place on, one after the other
read_on : (w : List Bool) (s n i : ℕ) → s + (i + n) ≤ length w → i + n ≤ 128
    → fold (λ (v p : ℕ). v * 2 % 2 ^ 128 + bool_byte (get_or w (s + p) false)) (number (take i (drop s w))) (range_with_len i n) ≡ number (take (i + n) (drop s w))
read_on w s zero i h few = ap (λ (j : ℕ). number (take j (drop s w))) (let e : i ≡ i + 0 = omega arith in e)
read_on w s (suc n) i h few =
    let small = number_lt (take i (drop s w)) in
    let size : 2 ^ length (take i (drop s w)) ≤ 2 ^ 127 = pow_mono {i = length (take i (drop s w))} {j = 127} (omega (arith, length-take-le i (drop s w) (omega (arith, length-drop s w)))) in
    let fits : number (take i (drop s w)) * 2 < 2 ^ 128 = omega arith in
    ap (λ (v : ℕ). fold (λ (v p : ℕ). v * 2 % 2 ^ 128 + bool_byte (get_or w (s + p) false)) v (range_with_len (i + 1) n))
    (ap₂ ◌+◌ (mod-eq_of_lt fits) (as_number (get_or w (s + i) false)) ∙ push w s i (omega arith))
    ∙ read_on w s n (i + 1) (omega arith) (omega arith) ∙ ap (λ (j : ℕ). number (take j (drop s w))) (let e : i + 1 + n ≡ i + suc n = omega arith in e)

pub returns-then-not-hold_behind : goal.returns-then-not-hold_behind
returns-then-not-hold_behind c =
    let bs = c.args.bytes.now in
    record { number_of_those_bits = no_number 128 (bits bs) c.args.skip c.args.count (omega (arith, bits_length bs)) }

pub returns : goal.returns
returns c =
    let bs = c.args.bytes.now in
    let s = c.args.skip in
    let k = c.args.count in
    let slice = take (length bs - s / 8) (drop (s / 8) bs) in
    let w = bits slice in
    let whole : drop (s % 8) w ≡ drop s (bits bs) = bits_from bs s (omega arith) in
    let r : c.fold.result ≡ number (take k (drop (s % 8) w)) =
    fold_from_yields_List _ (λ (v p : ℕ). v * 2 % 2 ^ 128 + bool_byte (get_or w (s % 8 + p) false)) 0 _ c.fold.ensures.ran (YieldsList-from_range 0 k k (cc) (omega arith)) (λ a x b q h. search (rules, tests))
    ∙ read_on w (s % 8) k 0 (omega (arith, bits_length slice, length-take-le (length bs - s / 8) (drop (s / 8) bs) (omega (arith, length-drop (s / 8) bs)), length-drop (s / 8) bs)) (omega arith)
    ∙ ap (λ (j : ℕ). number (take j (drop (s % 8) w))) (let e : 0 + k ≡ k = omega arith in e) in
    record {
      number_of_those_bits =
          ap Some (r ∙ ap (λ (v : List Bool). number (take k v)) whole) ∙ that_number 128 (bits bs) s k (omega arith) (omega arith) (omega (arith, bits_length bs));
    }
