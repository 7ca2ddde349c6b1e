-- The rows of the table. A word is read by the one inner codeword near its middle, which is named here by its data bits.
use Rattle.std.proofs.Common.{◌≡◌, ℕ, ◌≤◌, Bool, true, false, cond, eqb, List, [], ◌∷◌, ◌++◌, length, take, drop, replicate, Ok, Err, Result, sym, refl, ap, subst, lit≤}
use lib.Count.{ones}
use Rattle.std.proofs.lemmas.Bool.{eq-eqb}
use Rattle.wordcode.specs.declared.page.PageReading.TheVariants.{Blank}
use Rattle.wordcode.specs.Page.{page_checked, PageRead}
use Rattle.std.specs.List.{AllByRecursion as All}
use Rattle.gf2.specs.declared.field.Field.TheVariants.{Three, Eight}
use Rattle.gf2.specs.Words.{add, weight, distance, bits, bits_of}
use Rattle.gf2.specs.Product.{times_x, sum_of_shifts, times}
use Rattle.bch.specs.Checks.{running}
use Rattle.bch.specs.Codes.{WorkedCodeword, worked_checks}
use Rattle.bch.specs.Theory.Laws.{worked_inner_code, worked_setting}
use Rattle.position.specs.Labels.{label_sum, no_powers_of_two}
use Rattle.position.specs.Short.{data_labels, short_checks}
use Rattle.pagecode.specs.Groups.{groups, sum_of_products}
use Rattle.pagecode.specs.InnerData.{lead, each}
use Rattle.wordcode.specs.Codeword.{f_bits}
use Rattle.wordcode.specs.Reading.{Answer, gives, unreadable, middle, last_bits, Reads}
use Rattle.wordcode.specs.Settling.{settled}
use Rattle.wordcode.proofs.Rules.{reads_settled}
use Rattle.published.specs.Table.{Holds, is_clean, over_the_bound, refused_with_8, answers_ff, table, first_message, turned_message, second_message, first_word}

-- what the word x, xs is read as, by the inner codeword with the data bits d
read_as : Bool → List Bool → List Bool → Answer
read_as x xs d =
    settled 2 3 x (take 18 (d ++ worked_checks d)) (distance (middle 28 (x ∷ xs)) (d ++ worked_checks d))
    (weight (lead true (add (middle 28 (x ∷ xs)) (d ++ worked_checks d)))) (weight (add (each x (last_bits 28 (x ∷ xs))) (f_bits Three (take 18 (d ++ worked_checks d)))))

read_row : (x : Bool) (xs d : List Bool) (a : Answer) → length (x ∷ xs) ≡ 32 → length d ≡ 18 → distance (middle 28 (x ∷ xs)) (d ++ worked_checks d) ≤ 2
    → read_as x xs d ≡ a → Reads 18 10 2 Three worked_checks (x ∷ xs) a
unfolding read_as
read_row x xs d a long eighteen near e =
    subst (Reads 18 10 2 Three worked_checks (x ∷ xs)) e
    (reads_settled 18 10 2 3 Three WorkedCodeword worked_checks worked_inner_code worked_setting x xs (d ++ worked_checks d) long
    (record { code = worked_inner_code.data_are_free d eighteen; near = near }))

-- the data bits of the first inner codeword
abbrev first_data : List Bool
first_data = bits_of 18 0b11_0110_0111_1010_0111

-- the rest of a word in bytes
abbrev behind : List ℕ → List Bool
behind w = drop 1 (bits w)

-- 71 bytes FF have no mark
blank : Holds (answers_ff (replicate 71 0xFF) 68)
unfolding bits bits_of
blank before h = (ok, subst (λ (z : Result (Unit {0}) ℕ). PageRead z 544 10 1 Eight short_checks p before (replicate 68 0xFF) (Ok Blank)) (sym ok) (refl, ap (λ (n : ℕ). replicate n 0xFF) (sym h)))
  where
    p : List ℕ
    p = replicate 71 0xFF

    ok : page_checked 544 10 1 8 before p ≡ Ok tt
    ok = ap (λ (b : Bool). cond b (cond (eqb (length p) 71) (Ok tt) (Err 2)) (Err 2)) (eq-eqb (length before) 68 h)

first_is_clean : Holds (is_clean first_word first_message)
unfolding read_as bits bits_of running times_x groups sum_of_products times sum_of_shifts
first_is_clean = read_row true (behind first_word) first_data (gives first_message 0 false) refl refl (lit≤ tt) refl

first_over : Holds (over_the_bound (0x5C ∷ 0xF4 ∷ 0xE3 ∷ 0xFD ∷ []) first_message 4)
unfolding read_as bits bits_of running times_x groups sum_of_products times sum_of_shifts
first_over = read_row false (behind (0x5C ∷ 0xF4 ∷ 0xE3 ∷ 0xFD ∷ [])) first_data (gives first_message 4 true) refl refl (lit≤ tt) refl

turned_is_clean : Holds (is_clean (0x6C ∷ 0xF4 ∷ 0xE3 ∷ 0xFA ∷ []) turned_message)
unfolding read_as bits bits_of running times_x groups sum_of_products times sum_of_shifts
turned_is_clean = read_row false (behind (0x6C ∷ 0xF4 ∷ 0xE3 ∷ 0xFA ∷ [])) first_data (gives turned_message 0 false) refl refl (lit≤ tt) refl

second_over : Holds (over_the_bound (0x20 ∷ 0x00 ∷ 0x00 ∷ 0x07 ∷ []) second_message 3)
unfolding read_as bits bits_of running times_x groups sum_of_products times sum_of_shifts
second_over = read_row false (behind (0x20 ∷ 0x00 ∷ 0x00 ∷ 0x07 ∷ [])) (replicate 18 false) (gives second_message 3 true) refl refl (lit≤ tt) refl

refused : Holds (refused_with_8 (0x20 ∷ 0x00 ∷ 0x00 ∷ 0x03 ∷ []))
unfolding read_as bits bits_of running times_x groups sum_of_products times sum_of_shifts
refused = (read_row false (behind (0x20 ∷ 0x00 ∷ 0x00 ∷ 0x03 ∷ [])) (replicate 18 false) unreadable refl refl (lit≤ tt) refl, refl)

-- the other rows compute
pub rows : All Holds table
unfolding bits bits_of running times_x groups sum_of_products times sum_of_shifts label_sum data_labels no_powers_of_two ones
rows = (refl, (first_is_clean, (first_over, (turned_is_clean, (refl, (refl, (refl, (second_over, (refused, (refl, (blank, tt)))))))))))
