use Rattle.std.proofs.Common.{◌≡◌, ℕ, ◌+◌, ◌-◌, Bool, false, eqb, List, length, get_or, take, drop, sym, ap, ◌∙◌, ap₂, arith, length-drop}
use Rattle.std.proofs.lemmas.List.{length-take-le}
use Rattle.gf2.specs.declared.field.Field.{Field}
use Rattle.gf2.specs.Words.{bits, bits_of, add, weight}
use Rattle.gf2.specs.Fields.{width}
use Rattle.gf2.proofs.Sums.{bits_of_length}
use Rattle.pagecode.specs.Groups.{f}
use Rattle.pagecode.specs.InnerData.{each}
use Rattle.wordcode.specs.Codeword.{f_bits}
use Rattle.wordcode.specs.Settling.{chosen, chosen_by, last_bits_apart}
use Rattle.wordcode.proofs.LastBits.{counted_across}
use Rattle.wordcode.proofs.settle.settle.Goals as goal

-- the choice with the values that the constants and the bits have
by_values : (t T r R b B s e e1 : ℕ) (x X : Bool) → t ≡ T → r ≡ R → x ≡ X → b ≡ B → s ≡ r - b → chosen t x (e + b) (1 + e1 + s) (eqb b r) ≡ chosen_by T R X e e1 B
by_values t T r R b B s e e1 x X et er ex eb es =
    ap₂ (λ (y : Bool) (i : ℕ). chosen t y (e + b) (1 + e1 + i) (eqb b r)) ex es
    ∙ ap₂ (λ (i j : ℕ). chosen i X (e + j) (1 + e1 + (r - j)) (eqb j r)) et eb
    ∙ ap (λ (i : ℕ). chosen T X (e + B) (1 + e1 + (i - B)) (eqb B i)) er

-- the bits that differ, with the values that the constants have
apart_by_values : (F G : Field) (i k j r : ℕ) (W : List Bool) (l : ℕ) → G ≡ F → i ≡ k → j ≡ r
    → weight (add (take (width G) (drop (1 + (i + j)) W)) (bits_of (width G) l)) ≡ weight (add (take (width F) (drop (1 + (k + r)) W)) (bits_of (width F) l))
apart_by_values F G i k j r W l ef ek er =
    ap (λ (H : Field). weight (add (take (width H) (drop (1 + (i + j)) W)) (bits_of (width H) l))) ef
    ∙ ap₂ (λ (a b : ℕ). weight (add (take (width F) (drop (1 + (a + b)) W)) (bits_of (width F) l))) ek er

pub returns : goal.returns
returns g c =
    let C = g.C.InnerCode in
    let F = C.FIELD in
    let W = bits c.args.word.now in
    let V = bits c.args.inner.now in
    let u = get_or W 0 false in
    let x = take (width F) (drop (1 + (C.DATA + C.CHECKS)) W) in
    let b = f_bits F (take C.DATA V) in
    let long : length x ≡ length b =
    length-take-le (width F) (drop (1 + (C.DATA + C.CHECKS)) W)
    (omega (arith, length-drop (1 + (C.DATA + C.CHECKS)) W, c.requires.word_has_its_bits, C.setting.width_of_a_field))
    ∙ sym (bits_of_length (width F) (f F (take C.DATA V))) in
    let last : bits_of (width F) c.last_bits-last.result ≡ each u b =
    c.last_bits-last.ensures.f_with_u_added ∙ ap (λ (y : Bool). each y b) c.is_set-first.ensures.the_bit_there in
    let apart : c.bits_apart-apart.result ≡ last_bits_apart C.DATA C.CHECKS F W V =
    (let values : c.bits_apart-apart.result ≡ weight (add (take (width c.FIELD.result) (drop (1 + (c.DATA.result + c.CHECKS.result)) W)) (bits_of (width c.FIELD.result) c.last_bits-last.result)) =
    c.bits_apart-apart.ensures.differing_bits in values)
    ∙ apart_by_values F c.FIELD.result c.DATA.result C.DATA c.CHECKS.result C.CHECKS W c.last_bits-last.result c.FIELD.ensures c.DATA.ensures c.CHECKS.ensures
    ∙ counted_across u x b (bits_of (width F) c.last_bits-last.result) long last in
    record {
      by_the_rules =
          (let choice : c.choose.result ≡ chosen c.ERRORS.result c.is_set-first.result (c.args.flips + c.bits_apart-apart.result)
          (1 + c.args.turned + c.saturating_sub.result) (eqb c.bits_apart-apart.result c.TAIL-r2.result) = c.choose.ensures.by_the_rules in choice)
          ∙ by_values c.ERRORS.result C.ERRORS c.TAIL-r2.result C.TAIL c.bits_apart-apart.result (last_bits_apart C.DATA C.CHECKS F W V) c.saturating_sub.result
          c.args.flips c.args.turned c.is_set-first.result u c.ERRORS.ensures c.TAIL-r2.ensures c.is_set-first.ensures.the_bit_there apart c.saturating_sub.ensures;
    }
