-- Pages. A page of W bytes holds the codeword of a message and then the mark, M zero bits. The message is whole data bytes, then zero bits.
use Rattle.std.specs.Prelude.{◌≡◌, ℕ, ◌+◌, ◌*◌, ◌/◌, ◌%◌, ◌≤◌, Bool, true, false, cond, List, ◌++◌, length, take, drop, replicate, Ok, Err, Result, ◌==◌, nat_lt}
use Rattle.gf2.specs.declared.field.Field.{Field}
use Rattle.gf2.specs.Words.{weight, bits}
use Rattle.gf2.specs.Fields.{width}
use Rattle.inner.specs.Pages.{word_bits, page_bytes, mark_bits}
use Rattle.wordcode.specs.declared.refusal.Refusal.{Refusal}
use Rattle.wordcode.specs.declared.page.PageReading.{PageReading}
use Rattle.wordcode.specs.declared.page.PageReading.TheVariants.{Blank, Word}
use Rattle.wordcode.specs.Refusals.{told}
use Rattle.wordcode.specs.Bytes.{padded}
use Rattle.wordcode.specs.Codeword.{codeword}
use Rattle.wordcode.specs.Reading.{Answer, gives, unreadable, Reads}

-- the whole bytes that a message of k1 + 1 bits holds
abbrev pub data_bytes : ℕ → ℕ
data_bytes k1 = (k1 + 1) / 8

abbrev pub page_message : ℕ → List ℕ → List Bool
page_message k1 ds = padded (k1 + 1) (bits ds)

-- the page of data bytes
abbrev pub page_of : (k1 r1 t : ℕ) → Field → (List Bool → List Bool) → List ℕ → List Bool
page_of k1 r1 t F checks ds = codeword F checks (page_message k1 ds) ++ replicate (mark_bits k1 r1 t (width F)) false

-- 2 if data or page are of another length
abbrev pub page_checked : (k1 r1 t r2 : ℕ) → List ℕ → List ℕ → Result (Unit {0}) ℕ
page_checked k1 r1 t r2 ds page = cond (length ds == data_bytes k1) (cond (length page == page_bytes k1 r1 t r2) (Ok tt) (Err 2)) (Err 2)

-- the page buffer after making a page; refused, it stays
abbrev pub PageMade : Result (Unit {0}) ℕ → List Bool → List ℕ → List ℕ → Type 0
PageMade (Ok made) page before after = bits after ≡ page
PageMade (Err n) page before after = after ≡ before

-- whether more than half of the mark is zero, which tells a written page from a blank one
abbrev pub marked : List Bool → Bool
marked mark = nat_lt (2 * weight mark) (length mark)

-- what is told of a page whose word has that answer, and the data bytes then
abbrev pub WordTold : Answer → List ℕ → List ℕ → Result PageReading ℕ → Type 0
WordTold (gives message d over) before after r = (r ≡ Ok (Word (record { distance = d; over = over }))) × (bits after ≡ take (8 * length before) message)
WordTold unreadable before after r = (r ≡ Err 8) × (after ≡ before)

-- a page with its mark has its word read by the rules; one without is blank, and its data are all FF
abbrev pub PageByItsMark : Bool → (k1 r1 t : ℕ) → Field → (List Bool → List Bool) → List ℕ → List ℕ → List ℕ → Result PageReading ℕ → Type 0
PageByItsMark true k1 r1 t F checks page before after r =
    (a : Answer) × Reads k1 r1 t F checks (take (word_bits k1 r1 (width F)) (bits page)) a × WordTold a before after r
PageByItsMark false k1 r1 t F checks page before after r = (r ≡ Ok Blank) × (after ≡ replicate (length before) 255)

abbrev pub PageRead : Result (Unit {0}) ℕ → (k1 r1 t : ℕ) → Field → (List Bool → List Bool) → List ℕ → List ℕ → List ℕ → Result PageReading Refusal → Type 0
PageRead (Err n) k1 r1 t F checks page before after r = (told r ≡ Err n) × (after ≡ before)
PageRead (Ok passed) k1 r1 t F checks page before after r =
    PageByItsMark (marked (drop (word_bits k1 r1 (width F)) (bits page))) k1 r1 t F checks page before after (told r)

-- M is the least number of 2t + 1 or more that ends a byte, and a page has W bytes
pub record PageLaws (k1 r1 t : ℕ) (F : Field) (checks : List Bool → List Bool) : Type 0 where
  pub mark_of_2t_and_1_at_least : 2 * t + 1 ≤ mark_bits k1 r1 t (width F)
  pub mark_ends_a_byte : word_bits k1 r1 (width F) + mark_bits k1 r1 t (width F) ≡ 8 * page_bytes k1 r1 t (width F)
  pub no_smaller_mark_does : (m : ℕ) → 2 * t + 1 ≤ m → (word_bits k1 r1 (width F) + m) % 8 ≡ 0 → mark_bits k1 r1 t (width F) ≤ m
  pub pages_have_w_bytes : (ds : List ℕ) → length ds ≡ data_bytes k1 → length (page_of k1 r1 t F checks ds) ≡ 8 * page_bytes k1 r1 t (width F)
