-- The published words: of the setting worked, but for the two pages, which are of the setting short.
use Rattle.std.specs.Prelude.{◌≡◌, ℕ, Bool, true, false, List, [], ◌∷◌, length, replicate, Ok, Err}
use Rattle.gf2.specs.declared.field.Field.TheVariants.{Three, Eight}
use Rattle.gf2.specs.Words.{add, bits, bits_of}
use Rattle.position.specs.Short.{short_checks}
use Rattle.bch.specs.Codes.{worked_checks}
use Rattle.wordcode.specs.declared.page.PageReading.TheVariants.{Blank}
use Rattle.wordcode.specs.Codeword.{codeword}
use Rattle.wordcode.specs.Reading.{gives, unreadable, Reads}
use Rattle.wordcode.specs.Encoding.{told_of}
use Rattle.wordcode.specs.Flips.{first_two_and_last}
use Rattle.wordcode.specs.Page.{page_of, page_checked, PageRead}

pub data Row : Type 0 where
  -- the message has that word as its codeword
  encodes_to : List Bool → List ℕ → Row
  -- the word is a codeword, that of the message
  is_clean : List ℕ → List Bool → Row
  -- the word is read over the bound, with that distance
  over_the_bound : List ℕ → List Bool → ℕ → Row
  -- no rule answers the word, which is told by 8
  refused_with_8 : List ℕ → Row
  -- the words differ in bits 1 and 2 and the last r2 bits
  differ_by_the_pattern : List ℕ → List ℕ → Row
  -- the data bytes have that page
  has_page : List ℕ → List ℕ → Row
  -- the page is read as blank, with so many bytes FF as its data
  answers_ff : List ℕ → ℕ → Row

abbrev pub Holds : Row → Type 0
Holds (encodes_to m w) = codeword Three worked_checks m ≡ bits w
Holds (is_clean w m) = Reads 18 10 2 Three worked_checks (bits w) (gives m 0 false)
Holds (over_the_bound w m d) = Reads 18 10 2 Three worked_checks (bits w) (gives m d true)
Holds (refused_with_8 w) = Reads 18 10 2 Three worked_checks (bits w) unreadable × (told_of unreadable ≡ Err 8)
Holds (differ_by_the_pattern w x) = add (bits w) (bits x) ≡ first_two_and_last 28 3
Holds (has_page ds p) = page_of 544 10 1 Eight short_checks ds ≡ bits p
Holds (answers_ff p n) =
    (before : List ℕ) → length before ≡ n
    → (page_checked 544 10 1 8 before p ≡ Ok tt)
    × PageRead (page_checked 544 10 1 8 before p) 544 10 1 Eight short_checks p before (replicate n 0xFF) (Ok Blank)

-- 1010110011110100111
abbrev pub first_message : List Bool
first_message = bits_of 19 0b101_0110_0111_1010_0111

-- the same with bits 1 and 2 flipped
abbrev pub turned_message : List Bool
turned_message = bits_of 19 0b011_0110_0111_1010_0111

-- 11 and 17 zeros
abbrev pub second_message : List Bool
second_message = true ∷ (true ∷ replicate 17 false)

abbrev pub first_word : List ℕ
first_word = 0xAC ∷ 0xF4 ∷ 0xE3 ∷ 0xFD ∷ []

abbrev pub table : List Row
table =
    encodes_to first_message first_word
    ∷ is_clean first_word first_message
    ∷ over_the_bound (0x5C ∷ 0xF4 ∷ 0xE3 ∷ 0xFD ∷ []) first_message 4
    ∷ is_clean (0x6C ∷ 0xF4 ∷ 0xE3 ∷ 0xFA ∷ []) turned_message
    ∷ differ_by_the_pattern first_word (0x6C ∷ 0xF4 ∷ 0xE3 ∷ 0xFA ∷ [])
    ∷ encodes_to (replicate 19 false) (0x00 ∷ 0x00 ∷ 0x00 ∷ 0x00 ∷ [])
    ∷ encodes_to second_message (0xC0 ∷ 0x00 ∷ 0x00 ∷ 0x07 ∷ [])
    ∷ over_the_bound (0x20 ∷ 0x00 ∷ 0x00 ∷ 0x07 ∷ []) second_message 3
    ∷ refused_with_8 (0x20 ∷ 0x00 ∷ 0x00 ∷ 0x03 ∷ [])
    ∷ has_page (replicate 68 0) (replicate 71 0)
    ∷ answers_ff (replicate 71 0xFF) 68
    ∷ []
