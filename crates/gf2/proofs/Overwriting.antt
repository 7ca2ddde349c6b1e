-- A word with a run of bits over some of its own, one bit after the other.
use Rattle.std.proofs.Common.{◌≡◌, ℕ, suc, ◌+◌, ◌-◌, ◌*◌, ◌/◌, ◌%◌, ◌<◌, ◌≤◌, Bool, true, false, cond, leb, List, [], ◌∷◌, ◌++◌, length, get_or, take, drop, set, sym, refl, ap, ◌∙◌, ap₂, arith, length-append, length-drop, take-append-drop, drop-drop}
use borrow.Rule.Slice.PartMut.{put_mid}
use lib.Seq.{set_split, take-append-add}
use Rattle.std.proofs.Math.Seq.{take-add}
use Rattle.std.proofs.lemmas.List.{append_assoc, append-nil, drop_all, drop_at, length-take-le, drop_more, take_all, take_at}
use Rattle.std.proofs.lemmas.Bool.{le-leb, lt-leb}
use Rattle.gf2.specs.Words.{bits, bits_of, with_run, room_for, with_number}
use Rattle.gf2.proofs.Places.{bits_length, bits_append}

-- a run that begins where another ends
pub run_after : (at n : ℕ) (q r w : List Bool) → length q ≡ n → at + n ≤ length w → with_run (at + n) r (with_run at q w) ≡ with_run at (q ++ r) w
run_after at n q r w long h =
    ap₂ (λ (a b : List Bool). a ++ (r ++ b)) (ap (take (at + n)) shape ∙ take_at (take at w ++ q) rest (at + n) front)
    (sym (drop-drop (length r) (at + n) (with_run at q w)) ∙ ap (drop (length r)) (ap (drop (at + n)) shape ∙ drop_at (take at w ++ q) rest (at + n) front) ∙ drop-drop (length r) (at + length q) w)
    ∙ append_assoc (take at w) q (r ++ drop (at + length q + length r) w)
    ∙ ap (λ (v : List Bool). take at w ++ v)
    (sym (append_assoc q r (drop (at + length q + length r) w))
    ∙ ap (λ (i : ℕ). (q ++ r) ++ drop i w) (let e : at + length q + length r ≡ at + length (q ++ r) = omega (arith, length-append q r) in e))
  where
    rest : List Bool
    rest = drop (at + length q) w

    shape : with_run at q w ≡ (take at w ++ q) ++ rest
    shape = sym (append_assoc (take at w) q rest)

    front : length (take at w ++ q) ≡ at + n
    front = omega (arith, length-append (take at w) q, length-take-le at w (omega arith), long)

-- an empty run changes nothing
pub run_empty : (at : ℕ) (w : List Bool) → with_run at [] w ≡ w
run_empty at w = ap (λ (n : ℕ). take at w ++ drop n w) (let e : at + 0 ≡ at = omega arith in e) ∙ take-append-drop at w

-- the next bits of a word over those behind its first
pub run_on : (at n m p : ℕ) (s w : List Bool) → p ≡ at + n → n + m ≤ length s → p ≤ length w → with_run p (take m (drop n s)) (with_run at (take n s) w) ≡ with_run at (take (n + m) s) w
run_on at n m p s w e h l =
    ap (λ (i : ℕ). with_run i (take m (drop n s)) (with_run at (take n s) w)) e
    ∙ run_after at n (take n s) (take m (drop n s)) w (length-take-le n s (omega arith)) (omega arith) ∙ ap (λ (r : List Bool). with_run at r w) (sym (take-add n m s))

pub run_more : (at j : ℕ) (s w : List Bool) → j < length s → at + j < length w
    → set (with_run at (take j s) w) (at + j) (get_or s j false) ≡ with_run at (take (j + 1) s) w
run_more at j s w hs hw =
    set_split r (at + j) (get_or s j false) (omega (arith, hw, long))
    ∙ ap₂ (λ (x : List Bool) (i : ℕ). take (at + j) r ++ (x ++ drop i r)) next (let e : suc (at + j) ≡ at + j + length (take 1 (drop j s)) = omega (arith, ap length next) in e)
    ∙ run_on at j 1 (at + j) s w refl (omega arith) (omega arith)
  where
    r : List Bool
    r = with_run at (take j s) w

    next : get_or s j false ∷ [] ≡ take 1 (drop j s)
    next = sym (ap (take 1) (drop_more s j false hs))

    long : length r ≡ length w
    long =
        omega (
          arith,
          length-append (take at w) (take j s ++ drop (at + length (take j s)) w),
          length-append (take j s) (drop (at + length (take j s)) w),
          length-take-le at w (omega arith),
          length-take-le j s (omega arith),
          length-drop (at + length (take j s)) w,
        )

-- every bit of the run
pub run_all : (at j : ℕ) (s w : List Bool) → length s ≤ j → with_run at (take j s) w ≡ with_run at s w
run_all at j s w h = ap (λ (r : List Bool). with_run at r w) (take_all j s h)

-- a run over the second of two words
run_behind : (at : ℕ) (r u v : List Bool) → u ++ with_run at r v ≡ with_run (length u + at) r (u ++ v)
run_behind at r u v =
    sym (append_assoc u (take at v) (r ++ drop (at + length r) v))
    ∙ sym (ap₂ (λ (a b : List Bool). a ++ (r ++ b)) (take-append-add u v at)
    (ap (λ (n : ℕ). drop n (u ++ v)) (let e : length u + at + length r ≡ length u + (at + length r) = omega arith in e)
    ∙ sym (drop-drop (at + length r) (length u) (u ++ v)) ∙ ap (drop (at + length r)) (drop_at u v (length u) refl)))

-- a run over the bits of the bytes from one of them on
pub run_from_byte : (bs ys : List ℕ) (a o : ℕ) (r : List Bool) → a ≤ length bs → bits ys ≡ with_run o r (bits (take (length bs - a) (drop a bs)))
    → bits (put_mid a (length bs - a) bs ys) ≡ with_run (a * 8 + o) r (bits bs)
run_from_byte bs ys a o r h e =
    let u = take a bs in
    let d = drop a bs in
    ap (λ (z : List ℕ). bits (u ++ (ys ++ z))) (drop_all (length bs - a) d (omega (arith, length-drop a bs)))
    ∙ ap (λ (z : List ℕ). bits (u ++ z)) (append-nil ys) ∙ bits_append u ys
    ∙ ap (λ (w : List Bool). bits u ++ w) (e ∙ ap (λ (z : List ℕ). with_run o r (bits z)) (take_all (length bs - a) d (omega (arith, length-drop a bs))))
    ∙ run_behind o r (bits u) (bits d)
    ∙ ap₂ (λ (i : ℕ) (w : List Bool). with_run i r w) (let i : length (bits u) + o ≡ a * 8 + o = omega (arith, bits_length u, length-take-le a bs h) in i)
    (sym (bits_append u d) ∙ ap bits (take-append-drop a bs))

-- the same from the byte where the run begins
pub run_in_bytes : (bs ys : List ℕ) (s : ℕ) (r : List Bool) → s / 8 ≤ length bs → bits ys ≡ with_run (s % 8) r (bits (take (length bs - s / 8) (drop (s / 8) bs)))
    → bits (put_mid (s / 8) (length bs - s / 8) bs ys) ≡ with_run s r (bits bs)
run_in_bytes bs ys s r h e =
    run_from_byte bs ys (s / 8) (s % 8) r h e ∙ ap (λ (i : ℕ). with_run i r (bits bs)) (let i : s / 8 * 8 + s % 8 ≡ s = omega arith in i)

pub room_there : (w : List Bool) (s k : ℕ) → k ≤ 128 → s + k ≤ length w → room_for w s k ≡ true
room_there w s k few h = ap (λ (b : Bool). cond b (leb (s + k) (length w)) false) (le-leb k 128 few) ∙ le-leb (s + k) (length w) h

pub no_room : (w : List Bool) (s k : ℕ) → k ≤ 128 → length w < s + k → room_for w s k ≡ false
no_room w s k few h = ap (λ (b : Bool). cond b (leb (s + k) (length w)) false) (le-leb k 128 few) ∙ lt-leb (s + k) (length w) h

-- a number for which there is room
pub number_there : (w : List Bool) (s k n : ℕ) → k ≤ 128 → s + k ≤ length w → with_number w s k n ≡ with_run s (bits_of k n) w
number_there w s k n few h = ap (λ (b : Bool). cond b (with_run s (bits_of k n) w) w) (room_there w s k few h)
