-- The sum of a word of the setting short, and its check bits.
use Rattle.std.proofs.Common.{◌≡◌, ℕ, ◌+◌, Bool, true, false, cond, leb, List, ◌++◌, length, take, drop, Some, None, sym, refl, ap, ◌∙◌, ap₂, arith, length-append, length-drop}
use lib.Bits.{bit_xor}
use Rattle.std.proofs.lemmas.List.{length-take-le, take-append-drop, take-take, drop-take}
use Rattle.std.proofs.lemmas.Bool.{leb-true}
use Rattle.gf2.specs.Words.{number}
use Rattle.position.specs.Labels.{label_sum, powers_of_two}
use Rattle.position.specs.Short.{data_labels, short_labels}
use Rattle.position.specs.Theory.LabelSums.{sum_with_checks, powers_length}
use Rattle.position.specs.Theory.ShortLaws.{data_labels_length}
use Rattle.position.proofs.Flips.{sum_take}

pub short_labels_length : length short_labels ≡ 554
short_labels_length = length-append data_labels (powers_of_two 10) ∙ ap₂ ◌+◌ data_labels_length (powers_length 10)

-- an answer that is there only if the test holds
pub if_some : (b : Bool) (s x : ℕ) → Some s ≡ cond b (Some x) None → (b ≡ true) × (s ≡ x)
if_some true s x e = (refl, cc)
if_some false s x e = let z : ◌≡◌ {A = ℕ} 0 1 = cc in absurd (omega arith)

pub if_none : (b : Bool) (x : ℕ) → None ≡ cond b (Some x) None → b ≡ false
if_none true x e = let z : ◌≡◌ {A = ℕ} 0 1 = cc in absurd (omega arith)
if_none false x e = refl

-- the label sum of the data bits, as the check bits take it
pub data_part : (w : List Bool) → label_sum data_labels (take 544 w) ≡ label_sum data_labels w
data_part w = sum_take data_labels w 544 data_labels_length

-- the label sum of a word from that of its data bits and the number of its check bits
pub word_sum : (w : List Bool) (d n : ℕ) → d ≡ label_sum data_labels w → Some n ≡ cond (leb 554 (length w)) (Some (number (take 10 (drop 544 w)))) None
    → Some (bit_xor d n) ≡ cond (leb 554 (length w)) (Some (label_sum short_labels (take 554 w))) None
word_sum w d n hd hn =
    let there = if_some (leb 554 (length w)) n (number (take 10 (drop 544 w))) hn in
    let enough = leb-true 554 (length w) there.0 in
    let p = take 10 (drop 544 w) in
    let split : take 544 w ++ p ≡ take 554 w =
    ap₂ ◌++◌ (sym (take-take 544 554 w (omega arith))) (sym (drop-take 544 10 w)) ∙ take-append-drop 544 (take 554 w) in
    ap Some (ap₂ bit_xor (hd ∙ sym (data_part w)) there.1
    ∙ sym (sum_with_checks 10 data_labels (take 544 w) p (length-take-le 544 w (omega arith) ∙ sym data_labels_length) (length-take-le 10 (drop 544 w) (omega (arith, length-drop 544 w))))
    ∙ ap (label_sum short_labels) split)
    ∙ sym (ap (λ (b : Bool). cond b (Some (label_sum short_labels (take 554 w))) None) there.0)
