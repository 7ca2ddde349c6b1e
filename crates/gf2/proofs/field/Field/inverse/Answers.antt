use Rattle.std.proofs.Common.{◌≡◌, ℕ, ◌-◌, ◌*◌, ◌%◌, ◌^◌, ◌<◌, Bool, cond, ◌≢◌, Some, None, sym, ap, ◌∙◌, subst, arith}
use Rattle.std.proofs.lemmas.Nat.{one_shl}
use Rattle.std.proofs.lemmas.Bool.{ne_eqb}
use Rattle.gf2.specs.Fields.{width, element, product, power}
use Rattle.gf2.proofs.Five.{field, inverts, widths}
use Rattle.gf2.proofs.PowerLaws as powers
use Rattle.gf2.proofs.field.Field.inverse.Goals as goal

pub returns-else-element-eq0 : goal.returns-else-element-eq0
returns-else-element-eq0 c =
    let F = c.args.self in
    let a = c.args.a in
    let some : element F a ≢ 0 = subst (λ (x : ℕ). x ≢ 0) c.element.ensures.low_bits c.if-element-eq0.false in
    let is : c.power.result ≡ power F a (2 ^ width F - 2) =
    c.power.ensures.product_of_that_many
    ∙ ap (λ (e : ℕ). power F a (e - 2))
    (ap (λ (k : ℕ). (1 * 2 ^ k) % 2 ^ 64) c.width.ensures.bits_of_an_element ∙ one_shl (width F) 64 (omega (arith, (widths F).1))) in
    record {
      power_that_inverts =
          ap Some is ∙ sym (ap (λ (b : Bool). cond b None (Some (power F a (2 ^ width F - 2)))) (ne_eqb (element F a) 0 some));
      gives_one_with_the_element = (
        subst (λ (x : ℕ). x < 2 ^ width F) (sym is) (powers.power_lt (width F) (product F) (field F).ring (field F).nontrivial a (2 ^ width F - 2)),
        ap (product F a) is ∙ inverts F a some,
      );
    }
