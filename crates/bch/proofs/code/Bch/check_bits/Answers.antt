use Rattle.std.proofs.Common.{◌≡◌, ℕ, Bool, true, cond, leb, ◌++◌, length, take, Some, None, sym, ap, ◌∙◌, subst}
use Rattle.std.proofs.lemmas.List.{length-take-le}
use Rattle.std.proofs.lemmas.Bool.{leb-true}
use Rattle.gf2.specs.Words.{bits, bits_of}
use Rattle.bch.specs.InnerLaws.{WordOf}
use Rattle.bch.specs.Settings.{data_bits, check_bits, checks_number}
use Rattle.bch.specs.Theory.Inner.{inner_code}
use Rattle.bch.proofs.code.Bch.check_bits.Goals as goal

pub returns : goal.returns
returns c =
    let C = c.args.self in
    let w = bits c.args.bytes.now in
    let k = data_bits C in
    let n = c.data_bits-count.ensures.data_bits_of_a_word in
    let enough : leb k (length w) ≡ true = ap (λ (i : ℕ). leb i (length w)) (sym n) ∙ sym c.if-not-holds.ensures.at_least_that_many_bits in
    let is : c.remainder.result ≡ checks_number C (take k w) = c.remainder.ensures.of_those_bits ∙ ap (λ (i : ℕ). checks_number C (take i w)) n in
    record {
      remainder_by_the_generator = ap Some is ∙ sym (ap (λ (b : Bool). cond b (Some (checks_number C (take k w))) None) enough);
      complete_a_codeword =
          subst (λ (x : ℕ). WordOf C (take k w ++ bits_of (check_bits C) x)) (sym is)
          ((inner_code C).data_are_free (take k w) (length-take-le k w (leb-true k (length w) enough)));
    }
