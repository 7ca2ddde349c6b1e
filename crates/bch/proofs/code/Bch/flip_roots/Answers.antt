use Rattle.std.proofs.Common.{◌≡◌, ℕ, ◌+◌, ◌-◌, ◌<◌, Bool, true, false, not, List, [], get_or, set, sym, refl, ap, ◌∙◌, add-one, arith}
use Rattle.gf2.specs.declared.field.Field.{Field}
use Rattle.gf2.specs.Polynomials.{power as power_under}
use Rattle.gf2.specs.Words.{bits, add, weight}
use Rattle.gf2.specs.Fields.{alpha, product, power}
use Rattle.bch.specs.Decoding.{all_vanish, marks, root_at}
use Rattle.bch.specs.Settings.{field, word_bits}
use Rattle.bch.proofs.Flips.{last_marks, flip_more, skip_more, flip_none, count_more, count_same, count_none}
use Rattle.bch.proofs.Terms.{moved_on, same_terms}
use Rattle.bch.proofs.code.Bch.flip_roots.Goals as goal
use Rattle.bch.proofs.code.Bch.flip_roots.Goals.{then-vanish, else-vanish}

-- the test at the point alpha^i
tested : (F G : Field) (ps : List (List ℕ)) (i y : ℕ) (b : Bool) → G ≡ F → y ≡ power F alpha i → b ≡ all_vanish (product G) ps y → root_at F ps i ≡ b
unfolding root_at
tested F G ps i y b eF e h = sym (h ∙ ap (λ (x : Field). all_vanish (product x) ps y) eF ∙ ap (all_vanish (product F) ps) e)

next_point : (F G : Field) (i y v : ℕ) → G ≡ F → y ≡ power F alpha i → v ≡ product G alpha y → v ≡ power F alpha (i + 1)
unfolding power_under
next_point F G i y v eF e h = h ∙ ap (λ (x : Field). product x alpha y) eF ∙ ap (product F alpha) e ∙ ap (power F alpha) (sym (add-one i))

first_point : (F : Field) → 1 ≡ power F alpha 0
unfolding power_under
first_point F = refl

pub loop-skip-init : goal.loop-skip-init
loop-skip-init c =
    let C = c.args.self in
    let F = field C in
    let ps = c.args.left.now.polys.items in
    let eF = c.at_one-first.ensures.in_the_field ∙ c.field.ensures.its_field in
    let none : 0 ≡ word_bits C - c.word_bits-skip.result = omega (arith, c.word_bits-skip.ensures.bits_of_a_word) in (
      eF,
      c.at_one-first.ensures.the_first_point ∙ first_point F ∙ ap (power F alpha) none,
      same_terms c.field.result F (get_or c.deref.result.now 0 []) (get_or ps 0 []) 1 c.at_one-first.result.point c.at_one-first.result.values c.field.ensures.its_field
          (ap (λ (qs : List (List ℕ)). get_or qs 0 []) c.deref.ensures.0) (sym c.at_one-first.ensures.the_first_point) c.at_one-first.ensures.its_terms,
      omega (arith, c.word_bits-skip.ensures.bits_of_a_word),
      count_none (root_at F ps) ∙ ap (λ (i : ℕ). weight (marks (root_at F ps) i)) none,
      flip_none (root_at F ps) (bits c.args.bytes.now) (word_bits C) c.requires.enough ∙ ap (λ (i : ℕ). add (bits c.args.bytes.now) (last_marks (root_at F ps) (word_bits C) i)) none,
    )

pub loop-skip-preserved : goal.loop-skip-preserved
loop-skip-preserved c =
    let C = c.args.self in
    let F = field C in
    let ps = c.args.left.now.polys.items in
    let f = root_at F ps in
    let n = word_bits C in
    let i = n - c.loop-skip.skip in
    let w = bits c.args.bytes.now in
    let first = c.loop-skip.first in
    let inv = c.loop-skip.invariant in
    let one : i + 1 ≡ n - (c.loop-skip.skip - 1) = omega (arith, inv.3) in
    let place : c.loop-skip.skip - 1 ≡ n - 1 - i = omega (arith, inv.3) in
    let inside : i < n = omega (arith, inv.3) in
    let point = next_point F first.field i first.point c.next-first.result.point inv.0 inv.1 c.next-first.ensures.the_next_point in
    let test : (b : Bool) → b ≡ all_vanish (product first.field) ps first.point → f i ≡ b = λ b e. tested F first.field ps i first.point b inv.0 inv.1 e in
    let moved = c.next-first.ensures.each_by_its_power_of_alpha in (
      c.next-first.ensures.in_the_field ∙ inv.0,
      point ∙ ap (power F alpha) one,
      moved_on F first.field (get_or ps 0 []) first.values c.next-first.result.values first.point c.next-first.result.point inv.0 c.next-first.ensures.the_next_point inv.2 moved,
      elim c.if-vanish.branch [ then-vanish y ↦ omega (arith, y.flips-is, inv.3) | else-vanish y ↦ omega (arith, y.flips-is, inv.3) ],
      elim c.if-vanish.branch [
        | then-vanish y ↦
            y.flips-is ∙ ap (λ (x : ℕ). x + 1) inv.4 ∙ count_more f i (test true y.if-vanish.ensures.all_are_0_there)
        | else-vanish y ↦ y.flips-is ∙ inv.4 ∙ count_same f i (test false y.if-vanish.ensures.all_are_0_there)
      ]
          ∙ ap (λ (k : ℕ). weight (marks f k)) one,
      elim c.if-vanish.branch [
        | then-vanish y ↦
            ap bits y.bytes-is ∙ y.put.ensures.only_that_bit_is_set_so
            ∙ ap (λ (b : Bool). set (bits c.loop-skip.bytes) (c.loop-skip.skip - 1) (not b)) y.is_set.ensures.the_bit_there
            ∙ ap (λ (j : ℕ). set (bits c.loop-skip.bytes) j (not (get_or (bits c.loop-skip.bytes) j false))) place
            ∙ flip_more f w (bits c.loop-skip.bytes) n i inside c.requires.enough
            (test true y.if-vanish.ensures.all_are_0_there) inv.5
        | else-vanish y ↦
            ap bits y.bytes-is
            ∙ skip_more f w (bits c.loop-skip.bytes) n i inside (test false y.if-vanish.ensures.all_are_0_there) inv.5
      ]
          ∙ ap (λ (k : ℕ). add w (last_marks f n k)) one,
    )
