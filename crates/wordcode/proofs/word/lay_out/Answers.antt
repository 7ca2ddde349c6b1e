use Rattle.std.proofs.Common.{◌≡◌, ℕ, ◌+◌, ◌-◌, ◌≤◌, Bool, List, ◌++◌, length, take, drop, replicate, sym, ap, ◌∙◌, ap₂, arith, length-append, length-drop}
use lib.ListN.{length-replicate}
use Rattle.std.proofs.lemmas.List.{length-take-le}
use Rattle.std.proofs.lemmas.Bool.{eqb-true}
use Rattle.gf2.specs.Words.{weight, bits, bits_of, with_run, with_number, with_bits_of}
use Rattle.gf2.proofs.Places.{bits_length}
use Rattle.gf2.proofs.Five.{widths}
use Rattle.gf2.proofs.Copying.{both, written}
use Rattle.gf2.proofs.Overwriting.{number_there}
use Rattle.wordcode.specs.Bytes.{padded}
use Rattle.wordcode.proofs.Padding.{padded_run, bytes_padded, run_length}
use Rattle.wordcode.proofs.word.lay_out.Goals as goal

-- the source with zeros behind it is as long as the buffer
cleared_length : (ms before after : List ℕ) → length ms ≤ length before → after ≡ ms ++ replicate (length before - length ms) 0
    → length (bits after) ≡ length (bits before)
cleared_length ms before after h e =
    omega (arith, bits_length after, bits_length before, ap length e, length-append ms (replicate (length before - length ms) 0), length-replicate {A = ℕ} (length before - length ms) 0)

-- the run is written within the word
checks_length : (k r : ℕ) (V : List Bool) → k + r ≤ length V → length (take r (drop k V)) ≡ r
checks_length k r V h = length-take-le r (drop k V) (omega (arith, length-drop k V))

pub returns : goal.returns
returns g c =
    let K = g.C.InnerCode.DATA in
    let R = g.C.InnerCode.CHECKS in
    let T = g.C.InnerCode.TAIL in
    let ek = c.DATA-k1.ensures in
    let er = c.CHECKS-r1.ensures in
    let et = c.TAIL.ensures in
    let ms = c.args.message.now in
    let before = c.args.word.now in
    let V = bits c.args.inner.now in
    let N = length (bits before) in
    let M = take (K + 1) (bits ms) in
    let C = take R (drop K V) in
    let hM : length M ≡ K + 1 = length-take-le (K + 1) (bits ms) c.requires.message_in_whole_bytes.0 in
    let inner_has : K + R ≤ length V = omega (arith, g.C.InnerCode.setting.page_fits, bits_length c.args.inner.now, c.fits-inner) in
    let hC = checks_length K R V inner_has in
    let none : weight (drop (K + 1) (bits ms)) ≡ 0 = eqb-true (weight (drop (K + 1) (bits ms))) 0 c.requires.message_in_whole_bytes.1 in
    let front : bits c.copy_and_clear.new.out ≡ padded N M =
    ap bits c.copy_and_clear.ensures.source_then_zeros ∙ bytes_padded (K + 1) (length before) ms c.requires.message_in_whole_bytes.0 none c.requires.word_has_room.0
    ∙ ap (λ (n : ℕ). padded n M) (sym (bits_length before)) in
    let same = cleared_length ms before c.copy_and_clear.new.out c.requires.word_has_room.0 c.copy_and_clear.ensures.source_then_zeros in
    let copied : bits c.copy_bits.new.out ≡ with_run (K + 1) C (bits c.copy_and_clear.new.out) =
    c.copy_bits.ensures.copies_those_bits_alone
    ∙ ap₂ (λ (k r : ℕ). with_bits_of r V k (bits c.copy_and_clear.new.out) (k + 1)) ek er
    ∙ sym (written R V K (bits c.copy_and_clear.new.out) (K + 1) (both R V K (bits c.copy_and_clear.new.out) (K + 1) inner_has (omega (arith, same, c.requires.word_has_room.1)))) in
    let checks : bits c.copy_bits.new.out ≡ padded N (M ++ C) = copied ∙ ap (with_run (K + 1) C) front ∙ padded_run N (K + 1) M C hM in
    let room : K + 1 + R + T ≤ length (bits c.copy_bits.new.out) =
    omega (
      arith,
      same,
      run_length (K + 1) C (bits c.copy_and_clear.new.out) (omega (arith, same, hC, c.requires.word_has_room.1)),
      ap length copied,
      c.requires.word_has_room.1,
    ) in
    let few : T ≤ 128 = omega (arith, g.C.InnerCode.setting.width_of_a_field, (widths g.C.InnerCode.FIELD).1) in
    record {
      message_checks_and_last_bits =
          c.put_number.ensures.only_those_bits_are_set_so
          ∙ ap₂ (λ (s k : ℕ). with_number (bits c.copy_bits.new.out) s k c.from.result) (ap₂ (λ (k r : ℕ). k + 1 + r) ek er) et
          ∙ number_there (bits c.copy_bits.new.out) (K + 1 + R) T c.from.result few room
          ∙ ap₂ (λ (n : ℕ) (w : List Bool). with_run (K + 1 + R) (bits_of T n) w) c.from.ensures checks
          ∙ padded_run N (K + 1 + R) (M ++ C) (bits_of T c.args.last) (omega (arith, length-append M C, hM, hC));
    }
