-- What is read of a word, from what the search near its middle and the choice say.
use Rattle.std.proofs.Common.{◌≡◌, ℕ, ◌+◌, ◌-◌, ◌≤◌, Bool, false, cond, not, List, length, get_or, take, drop, Ok, Err, Some, Option, Result, sym, refl, ap, ◌∙◌, subst}
use mathlib.Core.Bool.{beq}
use Rattle.gf2.specs.declared.field.Field.{Field}
use Rattle.gf2.specs.Words.{add, weight, bits}
use Rattle.gf2.specs.Fields.{width}
use Rattle.inner.specs.Code.{IsInnerCode, Setting}
use Rattle.inner.specs.Nearest.{Corrected, LeftAlone}
use Rattle.inner.specs.Pages.{word_bits}
use Rattle.pagecode.specs.InnerData.{each, with_inner_data}
use Rattle.wordcode.specs.Codeword.{f_bits}
use Rattle.wordcode.specs.declared.refusal.Refusal.{Refusal}
use Rattle.wordcode.specs.declared.refusal.Refusal.TheVariants.{Unreadable}
use Rattle.wordcode.specs.declared.word.Reading.{Reading}
use Rattle.wordcode.specs.declared.settle.Choice.{Choice}
use Rattle.wordcode.specs.Refusals.{told}
use Rattle.wordcode.specs.Bytes.{checked, padded}
use Rattle.wordcode.specs.Encoding.{ReadByTheRules}
use Rattle.wordcode.specs.Reading.{Answer, unreadable, Reads}
use Rattle.wordcode.specs.Settling.{message_of, chosen_by, answer_with, last_bits_apart}
use Rattle.wordcode.proofs.Passed.{Passed, passes}
use Rattle.wordcode.proofs.WordRead.{nothing_near, found}

module _ {k1 r1 t r2 : ℕ} {F : Field} {Codeword : List Bool → Type 0} {checks : List Bool → List Bool}
    (I : IsInnerCode k1 r1 t Codeword checks) (S : Setting k1 r1 t r2 F)
    (word : List ℕ) (O B V : List Bool) (n : ℕ) (n_is : n ≡ k1 + r1) (enough : word_bits k1 r1 r2 ≤ length (bits word))
    (room : k1 + r1 ≤ length O) (taken : B ≡ with_inner_data (bits word) n O) where
  W : List Bool
  W = bits word

  y_taken : B ≡ with_inner_data W (k1 + r1) O
  unfolding W
  y_taken = taken ∙ ap (λ (i : ℕ). with_inner_data (bits word) i O) n_is

  -- the same word, its length by the field
  by_field : (a : Answer) → Reads k1 r1 t F checks (take (word_bits k1 r1 r2) W) a → Reads k1 r1 t F checks (take (word_bits k1 r1 (width F)) W) a
  by_field a = subst (λ (r : ℕ). Reads k1 r1 t F checks (take (word_bits k1 r1 r) W) a) S.width_of_a_field

  pub unread : LeftAlone (k1 + r1) t Codeword B V → k1 + r1 ≤ length B → Reads k1 r1 t F checks (take (word_bits k1 r1 (width F)) (bits word)) unreadable
  unfolding W
  unread left fits =
      by_field unreadable (nothing_near I S W O B V enough room y_taken (left.none fits))

  pub chosen_reads : (flips turned : ℕ) (c : Option Choice) → Corrected (k1 + r1) t Codeword B V flips
      → turned ≡ cond (not (beq (get_or B 0 false) (get_or V 0 false))) (flips - 1) (flips + 1)
      → c ≡ chosen_by t r2 (get_or (bits word) 0 false) flips turned (last_bits_apart k1 r1 F (bits word) V)
      → Reads k1 r1 t F checks (take (word_bits k1 r1 (width F)) (bits word)) (answer_with (take k1 V) c)
  unfolding W
  chosen_reads flips turned c mended turned_is is =
      subst (λ (d : Option Choice). Reads k1 r1 t F checks (take (word_bits k1 r1 (width F)) W) (answer_with (take k1 V) d)) (sym is)
      (by_field (answer_with (take k1 V) (chosen_by t r2 (get_or W 0 false) flips turned (last_bits_apart k1 r1 F W V)))
      (found I S W O B V enough room y_taken (get_or W 0 false) flips (last_bits_apart k1 r1 F W V) turned mended.near mended.counts refl
      (ap (λ (i : ℕ). weight (add (each (get_or W 0 false) (take i (drop (1 + (k1 + r1)) W))) (f_bits F (take k1 V)))) (sym S.width_of_a_field)) turned_is))

module _ {k1 r1 t r2 : ℕ} {F : Field} {Codeword : List Bool → Type 0} {checks : List Bool → List Bool}
    (I : IsInnerCode k1 r1 t Codeword checks) (S : Setting k1 r1 t r2 F) (word message : List ℕ) where
  pub refused_by_the_rules : (r : Result Reading Refusal) → Passed (word_bits k1 r1 r2) (k1 + 1) word message → r ≡ Err Unreadable
      → Reads k1 r1 t F checks (take (word_bits k1 r1 (width F)) (bits word)) unreadable
      → ReadByTheRules k1 r1 t F checks (checked (word_bits k1 r1 r2) (k1 + 1) word message) word message message r
  refused_by_the_rules r fit is reads =
      subst (λ (z : Result (Unit {0}) ℕ). ReadByTheRules k1 r1 t F checks z word message message r) (sym (passes (word_bits k1 r1 r2) (k1 + 1) word message fit))
      (unreadable, reads, ap told is, refl)

  pub answered_by_the_rules : (after : List ℕ) → Passed (word_bits k1 r1 r2) (k1 + 1) word message → (V : List Bool) (c : Choice)
      → Reads k1 r1 t F checks (take (word_bits k1 r1 (width F)) (bits word)) (answer_with (take k1 V) (Some c))
      → bits after ≡ padded (length (bits message)) (message_of c.u (take k1 V))
      → ReadByTheRules k1 r1 t F checks (checked (word_bits k1 r1 r2) (k1 + 1) word message) word message after (Ok c.reading)
  answered_by_the_rules after fit V c reads written =
      subst (λ (z : Result (Unit {0}) ℕ). ReadByTheRules k1 r1 t F checks z word message after (Ok c.reading)) (sym (passes (word_bits k1 r1 r2) (k1 + 1) word message fit))
      (answer_with (take k1 V) (Some c), reads, refl, written)
