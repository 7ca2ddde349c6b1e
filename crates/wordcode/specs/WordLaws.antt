-- Codewords lie apart, and the rules of reading give every word exactly one answer.
use Rattle.std.specs.Prelude.{◌≡◌, ℕ, ◌+◌, ◌*◌, ◌≤◌, Bool, ◌≢◌, List, length, take}
use Rattle.gf2.specs.declared.field.Field.{Field}
use Rattle.gf2.specs.Words.{distance}
use Rattle.gf2.specs.Fields.{width}
use Rattle.inner.specs.Pages.{word_bits}
use Rattle.wordcode.specs.Codeword.{codeword}
use Rattle.wordcode.specs.Reading.{Answer, Reads}

pub record WordLaws (k1 r1 t : ℕ) (F : Field) (checks : List Bool → List Bool) : Type 0 where
  pub codewords_have_n_bits : (m : List Bool) → length m ≡ k1 + 1 → length (codeword F checks m) ≡ word_bits k1 r1 (width F)
  pub codewords_begin_with_the_message : (m : List Bool) → length m ≡ k1 + 1 → take (k1 + 1) (codeword F checks m) ≡ m
  pub different_messages_are_apart : (m o : List Bool) → length m ≡ k1 + 1 → length o ≡ k1 + 1 → m ≢ o
      → 2 * t + 1 ≤ distance (codeword F checks m) (codeword F checks o)
  pub every_word_has_an_answer : (word : List Bool) → length word ≡ word_bits k1 r1 (width F) → (a : Answer) × Reads k1 r1 t F checks word a
  pub no_word_has_two_answers : (word : List Bool) (a b : Answer) → length word ≡ word_bits k1 r1 (width F)
      → Reads k1 r1 t F checks word a → Reads k1 r1 t F checks word b → a ≡ b
