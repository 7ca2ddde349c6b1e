use Rattle.std.proofs.Common.{◌≡◌, ℕ, ◌+◌, Bool, cond, List, ◌++◌, take, drop, refl, ap, ap₂, ◌∙◌}
use Rattle.gf2.specs.Words.{bits, bits_of, room_for, with_number}
use Rattle.gf2.proofs.Sums.{bits_of_length}
use Rattle.inner.specs.Checks.{room_for_checks}
use Rattle.bch.specs.declared.code.Bch.{Bch}
use Rattle.bch.specs.declared.code.Bch.TheVariants.{Worked, Long}
use Rattle.bch.specs.Settings.{data_bits, check_bits, checks_number}
use Rattle.bch.proofs.code.Bch.complete.Goals as goal

-- the check bits are few enough for one number
room : (C : Bch) (w : List Bool) → room_for w (data_bits C) (check_bits C) ≡ room_for_checks (data_bits C) (check_bits C) w
room Worked w = refl
room Long w = refl

pub returns-clause-check_bits_follow_the_data : goal.returns-clause-check_bits_follow_the_data
returns-clause-check_bits_follow_the_data c =
    let C = c.args.self in
    let w = bits c.args.word.now in
    let k = data_bits C in
    let r = check_bits C in
    let n = checks_number C (take k w) in
    c.put_number.ensures.only_those_bits_are_set_so
    ∙ ap₂ (λ (i j : ℕ). with_number w i j c.remainder-checks.result) c.data_bits-2.ensures.data_bits_of_a_word c.degree.ensures.check_bits_of_a_word
    ∙ ap (with_number w k r) (c.remainder-checks.ensures.of_those_bits ∙ ap (λ (i : ℕ). checks_number C (take i w)) c.data_bits.ensures.data_bits_of_a_word)
    ∙ ap₂ (λ (b : Bool) (i : ℕ). cond b (take k w ++ (bits_of r n ++ drop (k + i) w)) w) (room C w) (bits_of_length r n)
