-- The conditions of a setting, as one test that is computed.
use Rattle.std.specs.Prelude.{◌≡◌, ℕ, ◌+◌, ◌*◌, ◌%◌, Bool, true, false, cond, T, ◌==◌, nat_le, nat_lt, refl}
use Rattle.std.proofs.lemmas.Bool.{eqb-true, leb-true, ltb-true}
use Rattle.gf2.specs.declared.field.Field.{Field}
use Rattle.gf2.specs.Fields.{width}
use Rattle.inner.specs.Pages.{page_bytes}
use Rattle.inner.specs.Code.{Setting}

both : (a b : Bool) → T (cond a b false) → (a ≡ true) × T b
both true b t = (refl, t)
both false b t = absurd t

holds : (b : Bool) → T b → b ≡ true
holds true t = refl
holds false t = absurd t

-- whether the numbers meet them
abbrev pub is_setting : (k1 r1 t r2 : ℕ) → Field → Bool
is_setting k1 r1 t r2 F =
    cond (r2 == width F)
    (cond (k1 % (2 * r2) == 0) (cond (nat_le 8 (k1 + 1)) (cond (nat_le (2 * t + 1) (r2 + 2)) (cond (nat_lt t r2) (nat_le (page_bytes k1 r1 t r2) 2048) false) false) false) false)
    false

pub setting : (k1 r1 t r2 : ℕ) (F : Field) → T (is_setting k1 r1 t r2 F) → Setting k1 r1 t r2 F
setting k1 r1 t r2 F h =
    let a = both (r2 == width F) _ h in
    let b = both (k1 % (2 * r2) == 0) _ a.1 in
    let c = both (nat_le 8 (k1 + 1)) _ b.1 in
    let d = both (nat_le (2 * t + 1) (r2 + 2)) _ c.1 in
    let e = both (nat_lt t r2) _ d.1 in
    record {
      width_of_a_field = eqb-true r2 (width F) a.0;
      pairs_of_groups = eqb-true (k1 % (2 * r2)) 0 b.0;
      a_byte_at_least = leb-true 8 (k1 + 1) c.0;
      tail_as_far_as_the_code = leb-true (2 * t + 1) (r2 + 2) d.0;
      tail_above_errors = ltb-true t r2 e.0;
      page_fits = leb-true (page_bytes k1 r1 t r2) 2048 (holds (nat_le (page_bytes k1 r1 t r2) 2048) e.1);
    }
