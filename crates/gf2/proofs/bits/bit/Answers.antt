use Rattle.std.proofs.Common.{◌≡◌, ℕ, suc, ◌-◌, ◌/◌, ◌%◌, ◌^◌, ◌<◌, ◌≤◌, length, get_or, eqb, Some, sym, ap, ◌∙◌, arith, rules}
use Rattle.std.proofs.lemmas.Bool.{ltb-false, ltb-true}
use Rattle.gf2.specs.Words.{bits, bit_number}
use Rattle.gf2.proofs.Numbered.{bit_number_zero, bit_number_at, bit_number_past, byte_bit, inside_bytes, past_bytes}
use Rattle.gf2.proofs.bits.bit.Goals as goal

pub returns-in_err-place : goal.returns-in_err-place
returns-in_err-place c =
    let w = bits c.args.bytes.now in
    let z : 0 ≡ c.args.nth = omega (arith, c.in_err-place.ensures) in
    record { that_bit_or_none = c.from_residual.ensures ∙ sym (bit_number_zero w) ∙ ap (bit_number w) z }

pub returns-in_err-byte : goal.returns-in_err-byte
returns-in_err-byte c =
    let bs = c.args.bytes.now in
    let i = c.in_ok-place.place in
    let e : suc i ≡ c.args.nth = omega (arith, c.in_ok-place.ensures) in
    let past : length bs ≤ i / 8 = omega (arith, ltb-false, c.in_err-byte.ensures.lookup) in
    record { that_bit_or_none = c.from_residual-in_err-byte.ensures ∙ sym (bit_number_past (bits bs) i (past_bytes bs i past)) ∙ ap (bit_number (bits bs)) e }

pub returns : goal.returns
returns c =
    let bs = c.args.bytes.now in
    let i = c.in_ok-place.place in
    let e : suc i ≡ c.args.nth = omega (arith, c.in_ok-place.ensures) in
    let h : i / 8 < length bs = ltb-true (i / 8) (length bs) (sym c.in_ok-byte.ensures.lookup.0) in
    let v : c.in_ok-byte.byte.now ≡ get_or bs (i / 8) 0 = search rules in
    record {
      that_bit_or_none =
          ap Some (c.has_bit.ensures.the_bit_there ∙ ap (λ (b : ℕ). eqb (b / 2 ^ (7 - i % 8) % 2) 1) v ∙ sym (byte_bit bs i h))
          ∙ sym (bit_number_at (bits bs) i (inside_bytes bs i h)) ∙ ap (bit_number (bits bs)) e;
    }
