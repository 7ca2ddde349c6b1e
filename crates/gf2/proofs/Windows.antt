-- Short runs of bits, read from the bytes in which they lie: a number from three, a byte from two.
use Rattle.std.proofs.Common.{◌≡◌, ℕ, zero, suc, ◌+◌, ◌-◌, ◌*◌, ◌/◌, ◌%◌, ◌^◌, ◌<◌, ◌≤◌, Bool, true, false, cond, leb, eqb, List, [], ◌∷◌, ◌++◌, length, get_or, take, drop, Some, None, Option, sym, refl, ap, ◌∙◌, ap₂, append_assoc, mod-lt, arith, length-drop, take-append-drop, drop-drop, pow_pos, shr-shr, subst, mod-eq_of_lt}
use lib.Bits.{bit_or, or_shifted}
use lib.Seq.{take-append-le, take-append-add}
use Rattle.std.proofs.lemmas.Nat.{shr_high, mod_low, shr_below, shr_le, or_mod}
use Rattle.std.proofs.lemmas.List.{drop-take, drop-append-le, get_or-drop, take_at}
use Rattle.std.proofs.lemmas.Bool.{le-leb, lt-leb}
use Rattle.gf2.specs.Words.{number, bits_of, bits, number_within}
use Rattle.gf2.proofs.Sums.{bits_of_length}
use Rattle.gf2.proofs.Digits.{bits_of_mod, number_bits_of}
use Rattle.gf2.proofs.Places.{bits_length, bits_append, bits_drop}

pub bits_of_drop : (o m n : ℕ) → drop o (bits_of (o + m) n) ≡ bits_of m n
unfolding bits_of
bits_of_drop zero m n = ap (λ (i : ℕ). bits_of i n) (let e : 0 + m ≡ m = omega arith in e)
bits_of_drop (suc o) m n = ap (λ (i : ℕ). drop (suc o) (bits_of i n)) (let e : suc o + m ≡ suc (o + m) = omega arith in e) ∙ bits_of_drop o m n

pub bits_of_take : (k j n : ℕ) → take k (bits_of (k + j) n) ≡ bits_of k (n / 2 ^ j)
unfolding bits_of
bits_of_take zero j n = refl
bits_of_take (suc k) j n =
    ap (λ (i : ℕ). take (suc k) (bits_of i n)) (let e : suc k + j ≡ suc (k + j) = omega arith in e)
    ∙ ap₂ ◌∷◌ (ap (λ (x : ℕ). eqb (x % 2) 1) (ap (λ (i : ℕ). n / 2 ^ i) (let e : k + j ≡ j + k = omega arith in e) ∙ sym (shr-shr n j k))) (bits_of_take k j n)

-- k bits before j others
pub joined : (k j a b : ℕ) → b < 2 ^ j → bits_of k a ++ bits_of j b ≡ bits_of (k + j) (a * 2 ^ j + b)
joined k j a b h =
    sym (ap₂ ◌++◌ (bits_of_take k j (a * 2 ^ j + b) ∙ ap (bits_of k) (shr_high a j b h))
    (bits_of_drop k j (a * 2 ^ j + b) ∙ sym (bits_of_mod j (a * 2 ^ j + b)) ∙ ap (bits_of j) (mod_low a j b h)))
    ∙ take-append-drop k (bits_of (k + j) (a * 2 ^ j + b))

-- the last bits of a byte before the first s of the next
across : (s j a b : ℕ) (w : List Bool) → s + j ≡ 8 → b < 256 → bits_of 8 (bit_or (a * 2 ^ s % 256) (b / 2 ^ j)) ≡ take 8 (drop s (bits_of 8 a ++ (bits_of 8 b ++ w)))
across s j a b w e hb =
    ap (bits_of 8) byte ∙ bits_of_mod 8 (a * 2 ^ s + q) ∙ ap (λ (i : ℕ). bits_of i (a * 2 ^ s + q)) (let i : 8 ≡ j + s = omega arith in i) ∙ sym (joined j s a q small)
    ∙ sym
    (ap (take 8) (drop-append-le s (bits_of 8 a) v (omega (arith, bits_of_length 8 a)) ∙ ap (λ (x : List Bool). x ++ v) last)
    ∙ ap (λ (i : ℕ). take i (bits_of j a ++ v)) (let i : 8 ≡ length (bits_of j a) + s = omega (arith, bits_of_length j a) in i)
    ∙ take-append-add (bits_of j a) v s ∙ ap (λ (x : List Bool). bits_of j a ++ x) first)
  where
    q : ℕ
    q = b / 2 ^ j

    v : List Bool
    v = bits_of 8 b ++ w

    small : q < 2 ^ s
    small = shr_below b s j (subst (λ (i : ℕ). b < 2 ^ i) (sym e) hb)

    byte : bit_or (a * 2 ^ s % 256) q ≡ (a * 2 ^ s + q) % 2 ^ 8
    byte =
        ap (bit_or (a * 2 ^ s % 256)) (sym (mod-eq_of_lt (let h : q < 256 = omega (arith, shr_le b j) in h))) ∙ sym (or_mod (a * 2 ^ s) q 8)
        ∙ ap (λ (x : ℕ). x % 2 ^ 8) (or_shifted a s q small)

    last : drop s (bits_of 8 a) ≡ bits_of j a
    last = ap (λ (i : ℕ). drop s (bits_of i a)) (sym e) ∙ bits_of_drop s j a

    first : take s v ≡ bits_of s q
    first = take-append-le s (bits_of 8 b) w (omega (arith, bits_of_length 8 b)) ∙ ap (λ (i : ℕ). take s (bits_of i b)) (sym e) ∙ bits_of_take s j b

-- the byte behind the first s bits, of the first byte and the next
pub byte_across : (bs : List ℕ) (s : ℕ) → ((i : ℕ) → get_or bs i 0 < 256) → 0 < s → s < 8 → s + 8 ≤ length (bits bs)
    → bits_of 8 (bit_or (get_or bs 0 0 * 2 ^ s % 256) (get_or bs 1 0 / 2 ^ (8 - s))) ≡ take 8 (drop s (bits bs))
unfolding bits
byte_across [] s low some near h = absurd (omega arith)
byte_across (a ∷ []) s low some near h = absurd (omega (arith, bits_length (a ∷ [])))
byte_across (a ∷ b ∷ bs) s low some near h = across s (8 - s) a b (bits bs) (omega arith) (low 1)

-- the first byte
pub first_byte : (bs : List ℕ) → 8 ≤ length (bits bs) → bits_of 8 (get_or bs 0 0) ≡ take 8 (bits bs)
unfolding bits
first_byte [] h = absurd (omega arith)
first_byte (a ∷ bs) h = sym (take_at (bits_of 8 a) (bits bs) 8 (bits_of_length 8 a))

-- three bytes as one number; past the end they are 0
abbrev pub three : List ℕ → ℕ
three bs = (get_or bs 0 0 * 256 + get_or bs 1 0) * 256 + get_or bs 2 0

whole : (a b c : ℕ) (R : List ℕ) (m : ℕ) → b < 256 → c < 256 → m ≤ 24 → take m (bits (a ∷ b ∷ c ∷ R)) ≡ take m (bits_of 24 ((a * 256 + b) * 256 + c))
unfolding bits
whole a b c R m hb hc h =
    ap (take m) (sym (ap (λ (w : List Bool). bits_of 8 a ++ w) (append_assoc (bits_of 8 b) (bits_of 8 c) (bits R))) ∙ sym (append_assoc (bits_of 8 a) (bits_of 8 b ++ bits_of 8 c) (bits R)))
    ∙ take-append-le m (bits_of 8 a ++ (bits_of 8 b ++ bits_of 8 c)) (bits R) (omega (arith, ap length joint, bits_of_length 24 ((a * 256 + b) * 256 + c)))
    ∙ ap (take m) joint
  where
    joint : bits_of 8 a ++ (bits_of 8 b ++ bits_of 8 c) ≡ bits_of 24 ((a * 256 + b) * 256 + c)
    joint =
        ap (λ (w : List Bool). bits_of 8 a ++ w) (joined 8 8 b c hc) ∙ joined 8 16 a (b * 2 ^ 8 + c) (omega arith)
        ∙ ap (bits_of 24) (let e : a * 2 ^ 16 + (b * 2 ^ 8 + c) ≡ (a * 256 + b) * 256 + c = omega arith in e)

-- zero bytes behind do not change the first bits
longer : (bs zs : List ℕ) (m : ℕ) → m ≤ length (bits bs) → take m (bits bs) ≡ take m (bits (bs ++ zs))
longer bs zs m h = sym (ap (take m) (bits_append bs zs) ∙ take-append-le m (bits bs) (bits zs) h)

front : (bs : List ℕ) (m : ℕ) → ((i : ℕ) → get_or bs i 0 < 256) → m ≤ 24 → m ≤ length (bits bs) → take m (bits bs) ≡ take m (bits_of 24 (three bs))
front [] m low h l = longer [] (0 ∷ 0 ∷ 0 ∷ []) m l ∙ whole 0 0 0 [] m (omega arith) (omega arith) h
front (a ∷ []) m low h l = longer (a ∷ []) (0 ∷ 0 ∷ []) m l ∙ whole a 0 0 [] m (omega arith) (omega arith) h
front (a ∷ b ∷ []) m low h l = longer (a ∷ b ∷ []) (0 ∷ []) m l ∙ whole a b 0 [] m (low 1) (omega arith) h
front (a ∷ b ∷ c ∷ R) m low h l = whole a b c R m (low 1) (low 2) h

-- the number of k bits behind the first s, with their three bytes as a number n
pub run_number : (bs : List ℕ) (s k : ℕ) → ((i : ℕ) → get_or bs i 0 < 256) → 1 ≤ k → s % 8 + k ≤ 24 → s + k ≤ length (bits bs)
    → number (take k (drop s (bits bs)))
    ≡ ((get_or bs (s / 8) 0 * 256 + get_or bs (s / 8 + 1) 0) * 256 + get_or bs (s / 8 + 2) 0) / 2 ^ (24 - (s % 8 + k)) % 2 ^ k
run_number bs s k low some few fit =
    ap number run ∙ ap (λ (n : ℕ). number (bits_of k (n / 2 ^ j))) same ∙ value
  where
    a : ℕ
    a = s / 8

    o : ℕ
    o = s % 8

    j : ℕ
    j = 24 - (o + k)

    B : List ℕ
    B = drop a bs

    N : ℕ
    N = (get_or bs a 0 * 256 + get_or bs (a + 1) 0) * 256 + get_or bs (a + 2) 0

    same : three B ≡ N
    same =
        ap₂ (λ (x y : ℕ). (x * 256 + y) * 256 + get_or B 2 0) (get_or-drop a bs 0 0 ∙ ap (λ (i : ℕ). get_or bs i 0) (let e : a + 0 ≡ a = omega arith in e)) (get_or-drop a bs 1 0)
        ∙ ap (λ (z : ℕ). (get_or bs a 0 * 256 + get_or bs (a + 1) 0) * 256 + z) (get_or-drop a bs 2 0)

    there : (i : ℕ) → get_or B i 0 < 256
    there i = omega (arith, get_or-drop a bs i 0, low (a + i))

    behind : drop s (bits bs) ≡ drop o (bits B)
    behind =
        ap (λ (i : ℕ). drop i (bits bs)) (let e : s ≡ a * 8 + o = omega arith in e) ∙ sym (drop-drop o (a * 8) (bits bs)) ∙ ap (drop o) (sym (bits_drop a bs))

    run : take k (drop s (bits bs)) ≡ bits_of k (three B / 2 ^ j)
    run =
        ap (take k) behind ∙ sym (drop-take o k (bits B))
        ∙ ap (drop o) (front B (o + k) there few (omega (arith, ap length behind, length-drop s (bits bs), length-drop o (bits B))))
        ∙ drop-take o k (bits_of 24 (three B))
        ∙ ap (λ (i : ℕ). take k (drop o (bits_of i (three B)))) (let e : 24 ≡ o + (k + j) = omega arith in e)
        ∙ ap (take k) (bits_of_drop o (k + j) (three B)) ∙ bits_of_take k j (three B)

    value : number (bits_of k (N / 2 ^ j)) ≡ N / 2 ^ j % 2 ^ k
    value = ap number (sym (bits_of_mod k (N / 2 ^ j))) ∙ number_bits_of k (N / 2 ^ j % 2 ^ k) (mod-lt (N / 2 ^ j) (pow_pos k))

-- a word that ends before the bits has no such number
pub no_number : (limit : ℕ) (w : List Bool) (s k : ℕ) → length w < s + k → None ≡ number_within limit w s k
no_number limit w s k h =
    sym
    (ap (λ (b : Bool). cond (leb 1 k) (cond (leb k limit) (cond b (Some (number (take k (drop s w)))) None) None) None) (lt-leb (s + k) (length w) h)
    ∙ same (leb 1 k) (leb k limit))
  where
    same : (a b : Bool) → ◌≡◌ {A = Option ℕ} (cond a (cond b None None) None) None
    same true true = refl
    same true false = refl
    same false b = refl

pub that_number : (limit : ℕ) (w : List Bool) (s k : ℕ) → 1 ≤ k → k ≤ limit → s + k ≤ length w → Some (number (take k (drop s w))) ≡ number_within limit w s k
that_number limit w s k low high fit =
    sym
    (ap (λ (b : Bool). cond b (cond (leb k limit) (cond (leb (s + k) (length w)) (Some n) None) None) None) (le-leb 1 k low)
    ∙ ap₂ (λ (a b : Bool). cond a (cond b (Some n) None) None) (le-leb k limit high) (le-leb (s + k) (length w) fit))
  where
    n : ℕ
    n = number (take k (drop s w))
