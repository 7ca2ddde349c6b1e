-- The inner codeword near y, or that there is none, decides what the rules of reading answer.
use Rattle.std.proofs.Common.{◌≡◌, ℕ, ◌+◌, ◌-◌, ◌<◌, ◌≤◌, Bool, true, false, cond, not, eqb, leb, List, [], ◌∷◌, ◌++◌, length, take, None, sym, refl, ap, ◌∙◌, subst, ap₂, arith}
use Rattle.std.proofs.lemmas.List.{take_at, drop_at}
use Rattle.std.proofs.lemmas.Bool.{leb-true, leb-false, eqb-true, eqb-false}
use Rattle.gf2.specs.declared.field.Field.{Field}
use Rattle.gf2.specs.Words.{plus, add, weight, distance}
use Rattle.gf2.proofs.Sums.{plus_self, add_length, weight_append}
use Rattle.gf2.proofs.WordLaws.{distance_is_a_metric}
use Rattle.inner.specs.Code.{IsInnerCode, Setting}
use Rattle.inner.specs.Nearest.{Near}
use Rattle.inner.specs.Pages.{word_bits}
use Rattle.pagecode.specs.InnerData.{lead, each}
use Rattle.wordcode.specs.Codeword.{f_bits, inner, laid_out, codeword}
use Rattle.wordcode.specs.Reading.{middle, last_bits, Within, Answer, gives, unreadable, Reads}
use Rattle.wordcode.specs.Settling.{message_of, choice, answer_with, settled}
use Rattle.wordcode.proofs.Added.{lead_length, lead_back, each_length, each_back, each_none, each_add, each_weight}
use Rattle.wordcode.proofs.LaidOut.{laid_out_weight, laid_out_plain, middle_length, last_length, distance_parts}
use Rattle.wordcode.proofs.InnerWords.{f_length, inner_data_length, inner_is_a_codeword, inner_length, data_length, data_and_checks, only_one_near}

module _ {k1 r1 t r2 : ℕ} {F : Field} {Codeword : List Bool → Type 0} {checks : List Bool → List Bool}
    (I : IsInnerCode k1 r1 t Codeword checks) (S : Setting k1 r1 t r2 F) where
  -- a codeword at most t bits from the word has its v at most t bits from y
  within_near : (q m : List Bool) → length q ≡ word_bits k1 r1 r2 → Within k1 t F checks q m → distance (middle (k1 + r1) q) (inner checks m) ≤ t
  within_near [] m h i = absurd (omega arith)
  within_near (x ∷ xs) [] h i = absurd (omega (arith, i.long))
  within_near (x ∷ xs) (u ∷ w) h i =
      let v = inner checks (u ∷ w) in
      let b = f_bits F (lead u w) in
      omega (
        arith,
        i.near,
        distance_parts (k1 + r1) r2 x xs h u v b (inner_length I (u ∷ w) i.long) (f_length S (lead u w)),
        laid_out_weight (plus x u) (add (middle (k1 + r1) (x ∷ xs)) v) (add (each x (last_bits (k1 + r1) (x ∷ xs))) b),
      )

  nothing_near : (q : List Bool) → length q ≡ word_bits k1 r1 r2 → ((c : List Bool) → Near t Codeword (middle (k1 + r1) q) c → ⊥)
      → Reads k1 r1 t F checks q unreadable
  nothing_near q h none = (
    λ m i. none (inner checks m) (record { code = inner_is_a_codeword I m i.long; near = within_near q m h i }),
    λ m i. none (inner checks m) (record { code = inner_is_a_codeword I m i.long; near = i.near }),
  )

  -- c is the codeword near y
  module _ (q c : List Bool) (h : length q ≡ word_bits k1 r1 r2) (N : Near t Codeword (middle (k1 + r1) q) c) where
    message_length : (u : Bool) → length (message_of u (take k1 c)) ≡ k1 + 1
    message_length u = omega (arith, lead_length u (take k1 c), data_length I c N.code)

    inner_is : (u : Bool) → inner checks (message_of u (take k1 c)) ≡ c
    inner_is u = ap (λ (d : List Bool). d ++ checks d) (lead_back u (take k1 c)) ∙ sym (data_and_checks I c N.code)

    codeword_is : (u : Bool) → codeword F checks (message_of u (take k1 c)) ≡ laid_out u c (f_bits F (take k1 c))
    codeword_is u = ap₂ (λ (v d : List Bool). laid_out u v (f_bits F d)) (inner_is u) (lead_back u (take k1 c))

    pub last_is : (u : Bool) → last_bits (k1 + r1) (codeword F checks (message_of u (take k1 c))) ≡ each u (f_bits F (take k1 c))
    last_is u = ap (last_bits (k1 + r1)) (codeword_is u) ∙ drop_at (u ∷ lead u c) (each u (f_bits F (take k1 c))) (1 + (k1 + r1)) (omega (arith, lead_length u c, I.long c N.code))

    -- a message whose v is near y is one of two
    pub one_of_two : (m : List Bool) → length m ≡ k1 + 1 → distance (middle (k1 + r1) q) (inner checks m) ≤ t → (u : Bool) × (m ≡ message_of u (take k1 c))
    one_of_two [] l n = absurd (omega arith)
    one_of_two (u ∷ w) l n = (
      u,
      ap (λ (z : List Bool). u ∷ z)
          (sym (lead_back u w)
          ∙ ap (lead u)
          (sym (take_at (lead u w) (checks (lead u w)) k1 (inner_data_length k1 (u ∷ w) l))
          ∙ ap (take k1) (only_one_near I (middle (k1 + r1) q) (inner checks (u ∷ w)) c (middle_length (k1 + r1) r2 q h) (inner_is_a_codeword I (u ∷ w) l) N.code n N.near))),
    )

    far : Bool → ℕ
    far u = distance q (laid_out u c (f_bits F (take k1 c)))

    reads_within : (u : Bool) → far u ≤ t → Reads k1 r1 t F checks q (gives (message_of u (take k1 c)) (far u) false)
    unfolding far
    reads_within u l = (
      record { long = message_length u; near = subst (λ (w : List Bool). distance q w ≤ t) (sym (codeword_is u)) l },
      ap (distance q) (sym (codeword_is u)),
    )

    none_within : ((u : Bool) → t < far u) → (m : List Bool) → Within k1 t F checks q m → ⊥
    unfolding far
    none_within over m i =
        let o = one_of_two m i.long (within_near q m h i) in
        omega (arith, i.near, over o.0, ap (λ (m : List Bool). distance q (codeword F checks m)) o.1, ap (distance q) (codeword_is o.0))

    reads_over : (u : Bool) → ((u : Bool) → t < far u) → last_bits (k1 + r1) q ≡ each u (f_bits F (take k1 c))
        → Reads k1 r1 t F checks q (gives (message_of u (take k1 c)) (far u) true)
    unfolding far
    reads_over u over e = (
      none_within over,
      record {
        long = message_length u;
        near = subst (λ (v : List Bool). distance (middle (k1 + r1) q) v ≤ t) (sym (inner_is u)) N.near;
        same_last_bits = e ∙ sym (last_is u);
      },
      ap (distance q) (sym (codeword_is u)),
    )

    reads_refused : ((u : Bool) → t < far u) → ((u : Bool) → last_bits (k1 + r1) q ≡ each u (f_bits F (take k1 c)) → ⊥) → Reads k1 r1 t F checks q unreadable
    reads_refused over none = (
      none_within over,
      λ m i.
          let o = one_of_two m i.long i.near in
          none o.0 (i.same_last_bits ∙ ap (λ (m : List Bool). last_bits (k1 + r1) (codeword F checks m)) o.1 ∙ last_is o.0),
    )

-- u is x or the other bit
either : (P : Bool → Type 0) (x : Bool) → P x → P (not x) → (u : Bool) → P u
either P true a b true = a
either P true a b false = b
either P false a b true = b
either P false a b false = a

plus_not : (x : Bool) → plus x (not x) ≡ true
plus_not true = refl
plus_not false = refl

module _ {k1 r1 t r2 : ℕ} {F : Field} {Codeword : List Bool → Type 0} {checks : List Bool → List Bool}
    (I : IsInnerCode k1 r1 t Codeword checks) (S : Setting k1 r1 t r2 F)
    (x : Bool) (xs c : List Bool) (h : length (x ∷ xs) ≡ word_bits k1 r1 r2) (N : Near t Codeword (middle (k1 + r1) (x ∷ xs)) c) where
  abbrev tail : List Bool
  tail = last_bits (k1 + r1) (x ∷ xs)

  abbrev f_of_c : List Bool
  f_of_c = f_bits F (take k1 c)

  -- where y differs from c, and where the last bits differ from those of the codeword with u = x
  abbrev gap : List Bool
  gap = add (middle (k1 + r1) (x ∷ xs)) c

  abbrev ends : List Bool
  ends = add (each x tail) f_of_c

  away : Bool → ℕ
  away = far I S (x ∷ xs) c h N

  level : length (each x tail) ≡ length f_of_c
  level = each_length x tail ∙ last_length (k1 + r1) r2 (x ∷ xs) h ∙ sym (f_length S (take k1 c))

  ends_length : length ends ≡ r2
  ends_length = add_length (each x tail) f_of_c level ∙ level ∙ f_length S (take k1 c)

  away_is : (u d : Bool) → plus x u ≡ d → away u ≡ weight (laid_out d gap ends)
  unfolding away far
  away_is u d e =
      distance_parts (k1 + r1) r2 x xs h u c f_of_c (I.long c N.code) (f_length S (take k1 c)) ∙ ap (λ (a : Bool). weight (laid_out a gap ends)) e

  away_same : away x ≡ weight gap + weight ends
  away_same = away_is x false (plus_self x) ∙ laid_out_plain gap ends

  away_turned : away (not x) ≡ 1 + weight (lead true gap) + (r2 - weight ends)
  away_turned =
      omega (arith, away_is (not x) true (plus_not x), weight_append (lead true gap) (each true ends), each_weight ends, ends_length)

  tails : (u d : Bool) → plus x u ≡ d → add tail (each u f_of_c) ≡ each d ends
  tails u d e =
      ap (λ (w : List Bool). add w (each u f_of_c)) (sym (each_back x tail)) ∙ each_add x u (each x tail) f_of_c level ∙ ap (λ (a : Bool). each a ends) e

  -- the word's last bits are those of u only if no bit differs
  no_difference : (u d : Bool) → plus x u ≡ d → tail ≡ each u f_of_c → weight (each d ends) ≡ 0
  no_difference u d e s =
      ap weight (sym (tails u d e)) ∙ ap (λ (w : List Bool). distance w (each u f_of_c)) s ∙ distance_is_a_metric.none_from_itself (each u f_of_c)

  settles : Reads k1 r1 t F checks (x ∷ xs) (settled t r2 x (take k1 c) (weight gap) (weight (lead true gap)) (weight ends))
  unfolding away
  settles = go (leb E t) (leb E1 t) (eqb (weight ends) r2) refl refl refl
    where
      E : ℕ
      E = weight gap + weight ends

      E1 : ℕ
      E1 = 1 + weight (lead true gap) + (r2 - weight ends)

      m : Bool → List Bool
      m u = message_of u (take k1 c)

      R : Answer → Type 0
      R = Reads k1 r1 t F checks (x ∷ xs)

      within : (u : Bool) (n : ℕ) → away u ≡ n → n ≤ t → R (gives (m u) n false)
      within u n e l = subst (λ (i : ℕ). R (gives (m u) i false)) e (reads_within I S (x ∷ xs) c h N u (omega (arith, e)))

      over : leb E t ≡ false → leb E1 t ≡ false → (u : Bool) → t < away u
      over p o = either (λ u. t < away u) x (omega (arith, away_same, leb-false E t p)) (omega (arith, away_turned, leb-false E1 t o))

      go : (a b d : Bool) → leb E t ≡ a → leb E1 t ≡ b → eqb (weight ends) r2 ≡ d
          → R (answer_with (take k1 c) (cond a (choice x E false) (cond b (choice (not x) E1 false) (cond d (choice (not x) E1 true) None))))
      go true b d p o s = within x E away_same (leb-true E t p)
      go false true d p o s = within (not x) E1 away_turned (leb-true E1 t o)
      go false false true p o s =
          subst (λ (i : ℕ). R (gives (m (not x)) i true)) away_turned (reads_over I S (x ∷ xs) c h N (not x) (over p o) opposite)
        where
          opposite : tail ≡ each (not x) f_of_c
          opposite =
              distance_is_a_metric.none_only_between_equals tail (each (not x) f_of_c) (sym (each_length x tail) ∙ level ∙ sym (each_length (not x) f_of_c))
              (omega (arith, ap weight (tails (not x) true (plus_not x)), each_weight ends, ends_length, eqb-true (weight ends) r2 s))
      go false false false p o s =
          reads_refused I S (x ∷ xs) c h N (over p o)
          (either (λ u. tail ≡ each u f_of_c → ⊥) x
          (λ e. omega (arith, leb-false E t p, N.near, no_difference x false (plus_self x) e, ap weight (each_none ends)))
          (λ e. eqb-false (weight ends) r2 s (omega (arith, no_difference (not x) true (plus_not x) e, each_weight ends, ends_length))))

-- ---- what a reader answers

-- where no inner codeword is near y
pub reads_nothing : (k1 r1 t r2 : ℕ) (F : Field) (Codeword : List Bool → Type 0) (checks : List Bool → List Bool)
    → IsInnerCode k1 r1 t Codeword checks → Setting k1 r1 t r2 F → (word : List Bool) → length word ≡ word_bits k1 r1 r2
    → ((c : List Bool) → Near t Codeword (middle (k1 + r1) word) c → ⊥) → Reads k1 r1 t F checks word unreadable
reads_nothing k1 r1 t r2 F Codeword checks I S word h none = nothing_near I S word h none

-- where c is near y
pub reads_settled : (k1 r1 t r2 : ℕ) (F : Field) (Codeword : List Bool → Type 0) (checks : List Bool → List Bool)
    → IsInnerCode k1 r1 t Codeword checks → Setting k1 r1 t r2 F → (x : Bool) (xs c : List Bool) → length (x ∷ xs) ≡ word_bits k1 r1 r2
    → Near t Codeword (middle (k1 + r1) (x ∷ xs)) c
    → Reads k1 r1 t F checks (x ∷ xs)
    (settled t r2 x (take k1 c) (distance (middle (k1 + r1) (x ∷ xs)) c) (weight (lead true (add (middle (k1 + r1) (x ∷ xs)) c)))
    (weight (add (each x (last_bits (k1 + r1) (x ∷ xs))) (f_bits F (take k1 c)))))
reads_settled k1 r1 t r2 F Codeword checks I S x xs c h N = settles I S x xs c h N
