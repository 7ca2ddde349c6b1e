use Rattle.std.proofs.Common.{◌≡◌, ℕ, ◌-◌, ◌*◌, ◌/◌, ◌%◌, ◌^◌, Bool, true, false, not, ◌≢◌, get_or, set, sym, ap, ◌∙◌, arith}
use mathlib.Core.Bool.{beq}
use lib.Bits.{bit_xor}
use Rattle.std.proofs.lemmas.Nat.{one_shl}
use Rattle.std.proofs.lemmas.List.{set_past}
use Rattle.gf2.specs.Words.{bits}
use Rattle.gf2.proofs.Numbered.{byte_put, past_bytes}
use Rattle.gf2.proofs.bits.put.Goals as goal

-- what the test for a difference says
differs : (a b : Bool) → not (beq a b) ≡ true → a ≢ b
differs true true h e = let z : ◌≡◌ {A = ℕ} 0 1 = cc in omega arith
differs true false h e = let z : ◌≡◌ {A = ℕ} 0 1 = cc in omega arith
differs false true h e = let z : ◌≡◌ {A = ℕ} 0 1 = cc in omega arith
differs false false h e = let z : ◌≡◌ {A = ℕ} 0 1 = cc in omega arith

pub returns-then-skip-bytes : goal.returns-then-skip-bytes
returns-then-skip-bytes c =
    let bs = c.args.bytes.now in
    let s = c.args.skip in
    record { only_that_bit_is_set_so = sym (set_past (bits bs) s c.args.wanted (past_bytes bs s c.if-skip-bytes.true)) }

pub returns-then-is_set-wanted : goal.returns-then-is_set-wanted
returns-then-is_set-wanted c =
    let bs = c.args.bytes.now in
    let s = c.args.skip in
    let mask : (1 * 2 ^ (7 - s % 8)) % 256 ≡ 2 ^ (7 - s % 8) = one_shl (7 - s % 8) 8 (omega arith) in
    let other : get_or (bits bs) s false ≢ c.args.wanted =
    λ e. differs c.is_set.result c.args.wanted c.if-is_set-wanted.true (c.is_set.ensures.the_bit_there ∙ e) in
    record {
      only_that_bit_is_set_so =
          ap (λ (m : ℕ). bits (set bs (s / 8) (bit_xor (get_or bs (s / 8) 0) m))) mask ∙ byte_put bs s c.args.wanted c.if-skip-bytes.false other;
    }
