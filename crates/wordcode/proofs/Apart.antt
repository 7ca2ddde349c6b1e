-- Codewords lie as far apart as those of the inner code, and a word has one answer.
use Rattle.std.proofs.Common.{◌≡◌, ℕ, zero, suc, ◌+◌, ◌*◌, ◌<◌, ◌≤◌, Bool, true, false, ◌≢◌, ◌⊎◌, List, [], ◌∷◌, ◌++◌, length, take, replicate, sym, refl, ap, ◌∙◌, subst, ap₂, inl, inr, append_assoc, arith}
use mathlib.Core.Bool.{Bool-discrete}
use mathlib.Core.List.{List-discrete}
use Rattle.std.proofs.lemmas.List.{nil_from_length, take_at}
use Rattle.std.proofs.lemmas.Bool.{cases_lt}
use Rattle.gf2.specs.declared.field.Field.{Field}
use Rattle.gf2.specs.Words.{plus, add, weight, distance}
use Rattle.gf2.proofs.Sums.{plus_comm, plus_back, add_self, triangle}
use Rattle.inner.specs.Code.{IsInnerCode, Setting}
use Rattle.inner.specs.Nearest.{Near}
use Rattle.inner.specs.Pages.{word_bits}
use Rattle.pagecode.specs.InnerData.{lead, each}
use Rattle.wordcode.specs.Codeword.{f_bits, inner, laid_out, codeword}
use Rattle.wordcode.specs.Reading.{middle, last_bits, Within, Matches, Answer, gives, unreadable, Reads}
use Rattle.wordcode.specs.Settling.{message_of, settled}
use Rattle.wordcode.specs.WordLaws.{WordLaws}
use Rattle.wordcode.proofs.Added.{lead_back, lead_append}
use Rattle.wordcode.proofs.LaidOut.{append_parts, laid_out_length, laid_out_add, laid_out_weight, laid_out_alone}
use Rattle.gf2.specs.Fields.{width}
use Rattle.wordcode.proofs.InnerWords.{at_width, f_length, inner_data_length, inner_is_a_codeword, inner_length, data_length, data_and_checks}
use Rattle.wordcode.proofs.Rules.{one_of_two, last_is, reads_nothing, reads_settled}

module _ {k1 r1 t r2 : ℕ} {F : Field} {Codeword : List Bool → Type 0} {checks : List Bool → List Bool}
    (I : IsInnerCode k1 r1 t Codeword checks) (S : Setting k1 r1 t r2 F) where
  codeword_length : (m : List Bool) → length m ≡ k1 + 1 → length (codeword F checks m) ≡ word_bits k1 r1 r2
  codeword_length [] h = absurd (omega arith)
  codeword_length (u ∷ w) h =
      laid_out_length u (inner checks (u ∷ w)) (f_bits F (lead u w)) ∙ ap₂ (λ (i j : ℕ). 1 + i + j) (inner_length I (u ∷ w) h) (f_length S (lead u w))

  begins : (m : List Bool) → length m ≡ k1 + 1 → take (k1 + 1) (codeword F checks m) ≡ m
  begins [] h = absurd (omega arith)
  begins (u ∷ w) h =
      ap (λ (v : List Bool). take (k1 + 1) (u ∷ (v ++ b)))
      (lead_append u (lead u w) p (omega (arith, inner_data_length k1 (u ∷ w) h, S.a_byte_at_least)) ∙ ap (λ (v : List Bool). v ++ p) (lead_back u w))
      ∙ ap (λ (v : List Bool). take (k1 + 1) (u ∷ v)) (append_assoc w p b) ∙ take_at (u ∷ w) (p ++ b) (k1 + 1) h
    where
      p : List Bool
      p = checks (lead u w)

      b : List Bool
      b = each u (f_bits F (lead u w))

  apart : (m o : List Bool) → length m ≡ k1 + 1 → length o ≡ k1 + 1 → m ≢ o → 2 * t + 1 ≤ distance (codeword F checks m) (codeword F checks o)
  apart [] o hm ho ne = absurd (omega arith)
  apart (u ∷ w) [] hm ho ne = absurd (omega arith)
  apart (u ∷ w) (x ∷ z) hm ho ne = go (List-discrete Bool-discrete d c)
    where
      d : List Bool
      d = lead u w

      c : List Bool
      c = lead x z

      v : List Bool → List Bool
      v d = d ++ checks d

      parts : distance (codeword F checks (u ∷ w)) (codeword F checks (x ∷ z)) ≡ weight (laid_out (plus u x) (add (v d) (v c)) (add (f_bits F d) (f_bits F c)))
      parts =
          ap weight
          (laid_out_add u x (v d) (v c) (f_bits F d) (f_bits F c) (inner_length I (u ∷ w) hm ∙ sym (inner_length I (x ∷ z) ho)) (f_length S d ∙ sym (f_length S c)))

      same : d ≡ c → u ≡ x → u ∷ w ≡ x ∷ z
      same e q = ap₂ ◌∷◌ q (sym (lead_back u w) ∙ ap₂ lead q e ∙ lead_back x z)

      differ : (a b : Bool) → a ≢ b → plus a b ≡ true
      differ true true h = absurd (h refl)
      differ true false h = refl
      differ false true h = refl
      differ false false h = absurd (h refl)

      -- equal v: the first two bits differ and the last r2
      tail : d ≡ c → distance (codeword F checks (u ∷ w)) (codeword F checks (x ∷ z)) ≡ 2 + r2
      tail e =
          parts ∙ ap (λ (a : List Bool). weight (laid_out (plus u x) (add (v d) (v a)) (add (f_bits F d) (f_bits F a)))) (sym e)
          ∙ ap₂ (λ (p q : List Bool). weight (laid_out (plus u x) p q)) (add_self (v d) ∙ ap (λ (n : ℕ). replicate n false) (inner_length I (u ∷ w) hm))
          (add_self (f_bits F d) ∙ ap (λ (n : ℕ). replicate n false) (f_length S d))
          ∙ ap (λ (a : Bool). weight (laid_out a (replicate (k1 + r1) false) (replicate r2 false))) (differ u x (λ q. ne (same e q)))
          ∙ laid_out_alone (k1 + r1) r2 (omega (arith, S.a_byte_at_least))

      go : Dec (d ≡ c) → 2 * t + 1 ≤ distance (codeword F checks (u ∷ w)) (codeword F checks (x ∷ z))
      go (yes e) = omega (arith, tail e, S.tail_as_far_as_the_code)
      go (no n) =
          omega (
            arith,
            parts,
            laid_out_weight (plus u x) (add (v d) (v c)) (add (f_bits F d) (f_bits F c)),
            I.apart (v d) (v c) (inner_is_a_codeword I (u ∷ w) hm) (inner_is_a_codeword I (x ∷ z) ho)
                (λ e. n (append_parts d (checks d) c (checks c) (inner_data_length k1 (u ∷ w) hm ∙ sym (inner_data_length k1 (x ∷ z) ho)) e).0),
          )

  -- ---- one answer

  one_within : (q m o : List Bool) → length q ≡ word_bits k1 r1 r2 → Within k1 t F checks q m → Within k1 t F checks q o → m ≡ o
  one_within q m o h i j = go (List-discrete Bool-discrete m o)
    where
      go : Dec (m ≡ o) → m ≡ o
      go (yes e) = e
      go (no n) =
          absurd (omega (
            arith,
            i.near,
            j.near,
            apart m o i.long j.long n,
            triangle q (codeword F checks m) (codeword F checks o) (h ∙ sym (codeword_length m i.long)),
          ))

  one_matches : (q m o : List Bool) → length q ≡ word_bits k1 r1 r2 → Matches k1 r1 t F checks q m → Matches k1 r1 t F checks q o → m ≡ o
  one_matches q m o h i j =
      let a = one_of_two I S q c h N m i.long i.near in
      let b = one_of_two I S q c h N o j.long j.near in
      a.1
      ∙ ap (λ (u : Bool). message_of u (take k1 c))
      (same a.0 b.0 (f_bits F (take k1 c)) (f_length S (take k1 c))
      (sym (last_is I S q c h N a.0) ∙ ap last (sym a.1) ∙ sym i.same_last_bits ∙ j.same_last_bits ∙ ap last b.1 ∙ last_is I S q c h N b.0))
      ∙ sym b.1
    where
      c : List Bool
      c = inner checks m

      N : Near t Codeword (middle (k1 + r1) q) c
      N = record { code = inner_is_a_codeword I m i.long; near = i.near }

      last : List Bool → List Bool
      last m = last_bits (k1 + r1) (codeword F checks m)

      same : (u x : Bool) (b : List Bool) → length b ≡ r2 → each u b ≡ each x b → u ≡ x
      same u x [] l e = absurd (omega (arith, S.tail_above_errors))
      same u x (b ∷ bs) l e = sym (plus_back b u) ∙ ap (plus b) (plus_comm b u ∙ (let e0 : plus u b ≡ plus x b = cc in e0) ∙ plus_comm x b) ∙ plus_back b x

  one_answer : (q : List Bool) (a b : Answer) → length q ≡ word_bits k1 r1 r2 → Reads k1 r1 t F checks q a → Reads k1 r1 t F checks q b → a ≡ b
  one_answer q (gives m d false) (gives o e false) h i j =
      let s : m ≡ o = one_within q m o h i.0 j.0 in
      ap₂ (λ (x : List Bool) (y : ℕ). gives x y false) s (i.1 ∙ ap (λ (x : List Bool). distance q (codeword F checks x)) s ∙ sym j.1)
  one_answer q (gives m d false) (gives o e true) h i j = absurd (j.0 m i.0)
  one_answer q (gives m d false) unreadable h i j = absurd (j.0 m i.0)
  one_answer q (gives m d true) (gives o e false) h i j = absurd (i.0 o j.0)
  one_answer q (gives m d true) (gives o e true) h i j =
      let s : m ≡ o = one_matches q m o h i.1 j.1 in
      ap₂ (λ (x : List Bool) (y : ℕ). gives x y true) s (i.2 ∙ ap (λ (x : List Bool). distance q (codeword F checks x)) s ∙ sym j.2)
  one_answer q (gives m d true) unreadable h i j = absurd (j.1 m i.1)
  one_answer q unreadable (gives o e false) h i j = absurd (i.0 o j.0)
  one_answer q unreadable (gives o e true) h i j = absurd (i.1 o j.1)
  one_answer q unreadable unreadable h i j = refl

-- a word of k bits that P holds of, or that there is none
found : (k : ℕ) (P : List Bool → Type 0) → ((w : List Bool) → P w ⊎ (P w → ⊥))
    → ((w : List Bool) × (length w ≡ k) × P w) ⊎ ((w : List Bool) → length w ≡ k → P w → ⊥)
found zero P test = empty (test [])
  where
    empty : P [] ⊎ (P [] → ⊥) → ((w : List Bool) × (length w ≡ 0) × P w) ⊎ ((w : List Bool) → length w ≡ 0 → P w → ⊥)
    empty (inl p) = inl ([], refl, p)
    empty (inr n) = inr (λ w h p. n (subst P (nil_from_length w h) p))
found (suc k) P test = first (found k (λ w. P (true ∷ w)) (λ w. test (true ∷ w))) (found k (λ w. P (false ∷ w)) (λ w. test (false ∷ w)))
  where
    neither : ((w : List Bool) → length w ≡ k → P (true ∷ w) → ⊥) → ((w : List Bool) → length w ≡ k → P (false ∷ w) → ⊥)
        → (w : List Bool) → length w ≡ suc k → P w → ⊥
    neither a b [] h p = omega arith
    neither a b (true ∷ w) h p = a w (omega arith) p
    neither a b (false ∷ w) h p = b w (omega arith) p

    first : ((w : List Bool) × (length w ≡ k) × P (true ∷ w)) ⊎ ((w : List Bool) → length w ≡ k → P (true ∷ w) → ⊥)
        → ((w : List Bool) × (length w ≡ k) × P (false ∷ w)) ⊎ ((w : List Bool) → length w ≡ k → P (false ∷ w) → ⊥)
        → ((w : List Bool) × (length w ≡ suc k) × P w) ⊎ ((w : List Bool) → length w ≡ suc k → P w → ⊥)
    first (inl s) b = inl (true ∷ s.0, ap suc s.1, s.2)
    first (inr a) (inl s) = inl (false ∷ s.0, ap suc s.1, s.2)
    first (inr a) (inr b) = inr (neither a b)

an_answer : (k1 r1 t r2 : ℕ) (F : Field) (Codeword : List Bool → Type 0) (checks : List Bool → List Bool)
    → IsInnerCode k1 r1 t Codeword checks → Setting k1 r1 t r2 F → (word : List Bool) → length word ≡ word_bits k1 r1 r2
    → (a : Answer) × Reads k1 r1 t F checks word a
an_answer k1 r1 t r2 F Codeword checks I S [] h = absurd (omega arith)
an_answer k1 r1 t r2 F Codeword checks I S (x ∷ xs) h = go (found k1 Close (λ d. test d (cases_lt t (distance y (d ++ checks d)))))
  where
    y : List Bool
    y = middle (k1 + r1) (x ∷ xs)

    Close : List Bool → Type 0
    Close d = distance y (d ++ checks d) ≤ t

    test : (d : List Bool) → (t < distance y (d ++ checks d)) ⊎ (distance y (d ++ checks d) ≤ t) → Close d ⊎ (Close d → ⊥)
    test d (inl l) = inr (λ n. omega arith)
    test d (inr n) = inl n

    go : ((d : List Bool) × (length d ≡ k1) × Close d) ⊎ ((d : List Bool) → length d ≡ k1 → Close d → ⊥) → (a : Answer) × Reads k1 r1 t F checks (x ∷ xs) a
    go (inl n) =
        let c = n.0 ++ checks n.0 in (
          settled t r2 x (take k1 c) (distance y c) (weight (lead true (add y c))) (weight (add (each x (last_bits (k1 + r1) (x ∷ xs))) (f_bits F (take k1 c)))),
          reads_settled k1 r1 t r2 F Codeword checks I S x xs c h (record { code = I.data_are_free n.0 n.1; near = n.2 }),
        )
    go (inr none) = (
      unreadable,
      reads_nothing k1 r1 t r2 F Codeword checks I S (x ∷ xs) h
          (λ c N. none (take k1 c) (data_length I c N.code) (subst (λ (v : List Bool). distance y v ≤ t) (data_and_checks I c N.code) N.near)),
    )

pub word_laws : (k1 r1 t r2 : ℕ) (F : Field) (Codeword : List Bool → Type 0) (checks : List Bool → List Bool)
    → IsInnerCode k1 r1 t Codeword checks → Setting k1 r1 t r2 F → WordLaws k1 r1 t F checks
word_laws k1 r1 t r2 F Codeword checks I S =
    let W = at_width S in
    record {
      codewords_have_n_bits = codeword_length I W;
      codewords_begin_with_the_message = begins I W;
      different_messages_are_apart = apart I W;
      every_word_has_an_answer = an_answer k1 r1 t (width F) F Codeword checks I W;
      no_word_has_two_answers = one_answer I W;
    }
