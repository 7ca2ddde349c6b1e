use Rattle.std.proofs.Common.{◌≡◌, ℕ, ◌≤◌, length, take, Some, refl, sym, ap, ap₂, ◌∙◌, arith}
use Rattle.std.specs.Result.{result_unwrap_or}
use Rattle.gf2.specs.declared.field.Field.{Field}
use Rattle.gf2.specs.Words.{bits, bits_of}
use Rattle.gf2.specs.Fields.{width}
use Rattle.gf2.proofs.Places.{bits_length}
use Rattle.pagecode.specs.Groups.{f, f_over}
use Rattle.pagecode.specs.InnerData.{each}
use Rattle.pagecode.proofs.Pairs.{f_of_pairs}
use Rattle.wordcode.proofs.LastBits.{in_pairs}
use Rattle.wordcode.proofs.last.last_bits.Goals as goal

pub returns-clause-f_with_u_added : goal.returns-clause-f_with_u_added
returns-clause-f_with_u_added g c =
    let C = g.C.InnerCode in
    let V = bits c.args.inner.now in
    let enough : C.DATA ≤ length V = omega (arith, C.setting.page_fits, bits_length c.args.inner.now, c.fits-inner) in
    let value : c.unwrap_or-f.result ≡ f C.FIELD (take C.DATA V) =
    c.unwrap_or-f.ensures
    ∙ ap (λ (r : _). result_unwrap_or r 0)
    (c.f_over.ensures.f_of_the_first_bits_or_no_such_length ∙ ap₂ (λ (F : Field) (k : ℕ). f_over (Some F) V k) c.FIELD.ensures c.DATA.ensures
    ∙ sym (f_of_pairs C.FIELD V C.DATA (in_pairs C.DATA C.CHECKS C.ERRORS C.TAIL C.DATA C.FIELD C.FIELD C.setting refl refl) enough)) in
    ap (λ (F : Field). bits_of (width F) c.with_added.result) (sym c.FIELD-2.ensures) ∙ c.with_added.ensures.u_added_to_each_bit
    ∙ ap₂ (λ (F : Field) (n : ℕ). each c.args.u (bits_of (width F) n)) c.FIELD-2.ensures value
