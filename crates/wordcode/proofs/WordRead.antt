-- What the inner codeword found, or none, says of the whole word.
use Rattle.std.proofs.Common.{◌≡◌, ℕ, zero, suc, ◌+◌, ◌-◌, ◌<◌, ◌≤◌, Bool, true, false, cond, not, eqb, List, [], ◌∷◌, length, get_or, take, drop, sym, refl, ap, ◌∙◌, subst, ap₂, arith, take-take, take_at}
use mathlib.Core.Bool.{beq}
use Rattle.std.proofs.lemmas.List.{length-take-le, drop-take}
use Rattle.gf2.specs.declared.field.Field.{Field}
use Rattle.gf2.specs.Words.{add, weight, distance}
use Rattle.inner.specs.Pages.{word_bits}
use Rattle.inner.specs.Code.{IsInnerCode, Setting}
use Rattle.inner.specs.Nearest.{Near}
use Rattle.pagecode.specs.InnerData.{lead, each, inner_data, with_inner_data}
use Rattle.wordcode.specs.Codeword.{f_bits}
use Rattle.wordcode.specs.Reading.{middle, last_bits, unreadable, Reads}
use Rattle.wordcode.specs.Settling.{chosen, answer_with, settled}
use Rattle.wordcode.proofs.Encoded.{inner_data_first}
use Rattle.wordcode.proofs.LaidOut.{middle_length}
use Rattle.wordcode.proofs.InnerWords.{inner_data_length}
use Rattle.wordcode.proofs.Rules.{reads_nothing, reads_settled}

-- the distance with the first bit of y turned
turned_is : (Y V : List Bool) → 0 < length Y → 0 < length V
    → cond (not (beq (get_or Y 0 false) (get_or V 0 false))) (distance Y V - 1) (distance Y V + 1) ≡ weight (lead true (add Y V))
turned_is [] V hY hV = absurd (omega arith)
turned_is (y ∷ Y) [] hY hV = absurd (omega arith)
turned_is (true ∷ Y) (true ∷ V) hY hV = omega arith
turned_is (true ∷ Y) (false ∷ V) hY hV = omega arith
turned_is (false ∷ Y) (true ∷ V) hY hV = omega arith
turned_is (false ∷ Y) (false ∷ V) hY hV = omega arith

-- bits of the front are bits of the whole
front_first : (n : ℕ) (w : List Bool) → 0 < n → get_or (take n w) 0 false ≡ get_or w 0 false
front_first zero w h = absurd (omega arith)
front_first (suc n) [] h = refl
front_first (suc n) (b ∷ w) h = refl

middle_front : (n r : ℕ) (W : List Bool) → 0 < length W → middle n (take (1 + n + r) W) ≡ inner_data (take (n + 1) W)
middle_front n r [] h = absurd (omega arith)
middle_front n r (x ∷ A) h =
    ap (λ (i : ℕ). middle n (take i (x ∷ A))) (let e : 1 + n + r ≡ suc (n + r) = omega arith in e)
    ∙ ap (lead x) (take-take n (n + r) A (omega arith))
    ∙ ap (λ (i : ℕ). inner_data (take i (x ∷ A))) (let e : suc n ≡ n + 1 = omega arith in e)

module _ {k1 r1 t r2 : ℕ} {F : Field} {Codeword : List Bool → Type 0} {checks : List Bool → List Bool}
    (I : IsInnerCode k1 r1 t Codeword checks) (S : Setting k1 r1 t r2 F)
    (W O B V : List Bool) (h : word_bits k1 r1 r2 ≤ length W) (room : k1 + r1 ≤ length O) (taken : B ≡ with_inner_data W (k1 + r1) O) where
  Q : List Bool
  Q = take (word_bits k1 r1 r2) W

  some : 0 < k1 + r1
  some = omega (arith, S.a_byte_at_least)

  q_length : length Q ≡ word_bits k1 r1 r2
  unfolding Q
  q_length = length-take-le (word_bits k1 r1 r2) W h

  -- y stands at the front of B
  front : take (k1 + r1) B ≡ middle (k1 + r1) Q
  unfolding Q
  front =
      ap (take (k1 + r1)) (taken ∙ inner_data_first (k1 + r1) W O (omega arith) room)
      ∙ take_at y (drop (k1 + r1) O) (k1 + r1) (inner_data_length (k1 + r1) (take (k1 + r1 + 1) W) (length-take-le (k1 + r1 + 1) W (omega arith)))
      ∙ sym (middle_front (k1 + r1) r2 W (omega arith))
    where
      y : List Bool
      y = inner_data (take (k1 + r1 + 1) W)

  pub nothing_near : ((c : List Bool) → Near t Codeword (take (k1 + r1) B) c → ⊥) → Reads k1 r1 t F checks (take (word_bits k1 r1 r2) W) unreadable
  unfolding Q
  nothing_near none =
      reads_nothing k1 r1 t r2 F Codeword checks I S Q q_length (λ c N. none c (subst (λ (y : List Bool). Near t Codeword y c) (sym front) N))

  pub found : (x : Bool) (flips apart turned : ℕ) → Near t Codeword (take (k1 + r1) B) (take (k1 + r1) V) → flips ≡ distance (take (k1 + r1) B) (take (k1 + r1) V)
      → x ≡ get_or W 0 false → apart ≡ weight (add (each x (take r2 (drop (1 + (k1 + r1)) W))) (f_bits F (take k1 V)))
      → turned ≡ cond (not (beq (get_or B 0 false) (get_or V 0 false))) (flips - 1) (flips + 1)
      → Reads k1 r1 t F checks (take (word_bits k1 r1 r2) W) (answer_with (take k1 V) (chosen t x (flips + apart) (1 + turned + (r2 - apart)) (eqb apart r2)))
  unfolding Q
  found x flips apart turned N ef ex ea et = go Q refl
    where
      c : List Bool
      c = take (k1 + r1) V

      y : List Bool
      y = middle (k1 + r1) Q

      near : Near t Codeword y c
      near = subst (λ (w : List Bool). Near t Codeword w c) front N

      long : 0 < length c
      long = omega (arith, some, I.long c N.code)

      long_y : 0 < length y
      long_y = omega (arith, some, middle_length (k1 + r1) r2 Q q_length)

      data_bits : take k1 c ≡ take k1 V
      data_bits = take-take k1 (k1 + r1) V (omega arith)

      flips_are : flips ≡ distance y c
      flips_are = ef ∙ ap (λ (w : List Bool). distance w c) front

      turned_are : turned ≡ weight (lead true (add y c))
      turned_are =
          et ∙ ap₂ (λ (a b : Bool). cond (not (beq a b)) (flips - 1) (flips + 1))
          (sym (front_first (k1 + r1) B some) ∙ ap (λ (w : List Bool). get_or w 0 false) front) (sym (front_first (k1 + r1) V some))
          ∙ ap (λ (n : ℕ). cond (not (beq (get_or y 0 false) (get_or c 0 false))) (n - 1) (n + 1)) flips_are ∙ turned_is y c long_y long

      go : (q : List Bool) → Q ≡ q → Reads k1 r1 t F checks Q (settled t r2 x (take k1 V) flips turned apart)
      go [] e = absurd (omega (arith, q_length, ap length e))
      go (z ∷ zs) e =
          subst (λ (q : List Bool). Reads k1 r1 t F checks q (settled t r2 x (take k1 V) flips turned apart)) (sym e)
          (subst (Reads k1 r1 t F checks (z ∷ zs)) same
          (reads_settled k1 r1 t r2 F Codeword checks I S z zs c (sym (ap length e) ∙ q_length) (subst (λ (q : List Bool). Near t Codeword (middle (k1 + r1) q) c) e near)))
        where
          x_is : z ≡ x
          x_is = ap (λ (w : List Bool). get_or w 0 false) (sym e) ∙ front_first (word_bits k1 r1 r2) W (omega arith) ∙ sym ex

          y_is : middle (k1 + r1) (z ∷ zs) ≡ y
          y_is = ap (middle (k1 + r1)) (sym e)

          ends : last_bits (k1 + r1) (z ∷ zs) ≡ take r2 (drop (1 + (k1 + r1)) W)
          ends = ap (last_bits (k1 + r1)) (sym e) ∙ drop-take (1 + (k1 + r1)) r2 W

          apart_is : weight (add (each z (last_bits (k1 + r1) (z ∷ zs))) (f_bits F (take k1 c))) ≡ apart
          apart_is =
              ap₂ (λ (b : Bool) (w : List Bool). weight (add (each b w) (f_bits F (take k1 c)))) x_is ends
              ∙ ap (λ (d : List Bool). weight (add (each x (take r2 (drop (1 + (k1 + r1)) W))) (f_bits F d))) data_bits ∙ sym ea

          same : settled t r2 z (take k1 c) (distance (middle (k1 + r1) (z ∷ zs)) c) (weight (lead true (add (middle (k1 + r1) (z ∷ zs)) c)))
              (weight (add (each z (last_bits (k1 + r1) (z ∷ zs))) (f_bits F (take k1 c)))) ≡ settled t r2 x (take k1 V) flips turned apart
          same =
              ap (settled t r2 z (take k1 c) (distance (middle (k1 + r1) (z ∷ zs)) c) (weight (lead true (add (middle (k1 + r1) (z ∷ zs)) c)))) apart_is
              ∙ ap (λ (w : List Bool). settled t r2 z (take k1 c) (distance w c) (weight (lead true (add w c))) apart) y_is
              ∙ ap₂ (λ (m n : ℕ). settled t r2 z (take k1 c) m n apart) (sym flips_are) (sym turned_are)
              ∙ ap₂ (λ (b : Bool) (d : List Bool). settled t r2 b d flips turned apart) x_is data_bits
