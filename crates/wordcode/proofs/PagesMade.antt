-- Pages made: the codeword of the data bytes' message, then the mark.
use Rattle.std.proofs.Common.{◌≡◌, ℕ, ◌+◌, ◌-◌, ◌*◌, ◌≤◌, Bool, true, false, List, ◌++◌, length, take, drop, replicate, Ok, Result, sym, ap, ◌∙◌, subst, ap₂, arith, length-append}
use lib.ListN.{length-replicate}
use lib.Seq.{take-append-add}
use Rattle.std.proofs.lemmas.List.{take-replicate, drop-replicate, length-take-le}
use Rattle.std.proofs.lemmas.Bool.{eq-eqb}
use Rattle.gf2.specs.declared.field.Field.{Field}
use Rattle.gf2.specs.Words.{weight, bits}
use Rattle.gf2.specs.Fields.{width}
use Rattle.gf2.proofs.Sums.{weight_zeros}
use Rattle.gf2.proofs.Places.{bits_length, bits_append}
use Rattle.inner.specs.Pages.{word_bits, page_bytes, mark_bits, bytes_for}
use Rattle.inner.specs.Code.{IsInnerCode, Setting}
use Rattle.wordcode.specs.Codeword.{codeword}
use Rattle.wordcode.specs.Bytes.{padded, spare_clear, checked}
use Rattle.wordcode.specs.Encoding.{Written}
use Rattle.wordcode.specs.Page.{data_bytes, page_message, page_of, PageMade, PageLaws}
use Rattle.wordcode.proofs.Apart.{word_laws}
use Rattle.wordcode.proofs.Padding.{bits_of_zeros, padded_take, padded_behind, padded_more, bits_padded}
use Rattle.wordcode.proofs.Passed.{passes}

-- the front of a buffer that holds the data bytes and then zeros
pub message_source : (k1 N b : ℕ) (ds buffer : List ℕ) → length ds ≡ data_bytes k1 → bytes_for (k1 + 1) ≤ N → b ≡ bytes_for (k1 + 1)
    → buffer ≡ ds ++ replicate (N - length ds) 0 → take b buffer ≡ ds ++ replicate (bytes_for (k1 + 1) - length ds) 0
message_source k1 N b ds buffer size fit is e =
    ap₂ take (let a : b ≡ length ds + (bytes_for (k1 + 1) - length ds) = omega arith in a) e
    ∙ take-append-add ds (replicate (N - length ds) 0) (bytes_for (k1 + 1) - length ds)
    ∙ ap (λ (z : List ℕ). ds ++ z) (take-replicate (bytes_for (k1 + 1) - length ds) (N - length ds) 0 (omega arith))

-- a page that was cleared, in the bytes for its word and those behind them
pub cleared_front : (b n : ℕ) (page cleared : List ℕ) → b ≡ n → n ≤ length page → cleared ≡ replicate (length page) 0 → length (take b cleared) ≡ n
cleared_front b n page cleared is fit e = length-take-le b cleared (omega (arith, ap length e, length-replicate {A = ℕ} (length page) 0)) ∙ is

pub cleared_behind : (b n : ℕ) (page cleared : List ℕ) → b ≡ n → cleared ≡ replicate (length page) 0 → drop b cleared ≡ replicate (length page - n) 0
cleared_behind b n page cleared is e = ap₂ (λ (i : ℕ) (l : List ℕ). drop i l) is e ∙ drop-replicate {X = ℕ} n (length page) 0

-- data bytes with a zero byte or none behind them are the message, in whole bytes
module _ (k1 : ℕ) (ds source : List ℕ) (size : length ds ≡ data_bytes k1) (front : source ≡ ds ++ replicate (bytes_for (k1 + 1) - length ds) 0) where
  source_bits : bits source ≡ padded (bytes_for (k1 + 1) * 8) (bits ds)
  source_bits = ap bits front ∙ bits_padded (bytes_for (k1 + 1)) ds

  pub message_taken : take (k1 + 1) (bits source) ≡ page_message k1 ds
  message_taken = ap (take (k1 + 1)) source_bits ∙ padded_take (k1 + 1) (bytes_for (k1 + 1) * 8) (bits ds) (omega (arith, bits_length ds)) (omega arith)

  pub message_clear : spare_clear (k1 + 1) source ≡ true
  message_clear =
      eq-eqb (weight (drop (k1 + 1) (bits source))) 0
      (ap (λ (w : List Bool). weight (drop (k1 + 1) w)) source_bits
      ∙ ap weight (padded_behind (k1 + 1) (bytes_for (k1 + 1) * 8) (bits ds) (omega (arith, bits_length ds))) ∙ weight_zeros (bytes_for (k1 + 1) * 8 - (k1 + 1)))

  pub message_whole : length source ≡ bytes_for (k1 + 1)
  message_whole =
      ap length front ∙ length-append ds (replicate (bytes_for (k1 + 1) - length ds) 0)
      ∙ ap (λ (i : ℕ). length ds + i) (length-replicate {A = ℕ} (bytes_for (k1 + 1) - length ds) 0) ∙ (let e : length ds + (bytes_for (k1 + 1) - length ds) ≡ bytes_for (k1 + 1) = omega arith in e)

message_length : (k1 : ℕ) (ds : List ℕ) → length ds ≡ data_bytes k1 → length (page_message k1 ds) ≡ k1 + 1
message_length k1 ds h =
    omega (arith, bits_length ds, length-append (bits ds) (replicate (k1 + 1 - length (bits ds)) false), length-replicate {A = Bool} (k1 + 1 - length (bits ds)) false)

module _ {k1 r1 t r2 : ℕ} {F : Field} {Codeword : List Bool → Type 0} {checks : List Bool → List Bool}
    (I : IsInnerCode k1 r1 t Codeword checks) (S : Setting k1 r1 t r2 F) where
  word_length : (ds : List ℕ) → length ds ≡ data_bytes k1 → length (codeword F checks (page_message k1 ds)) ≡ word_bits k1 r1 r2
  word_length ds h =
      (word_laws k1 r1 t r2 F Codeword checks I S).codewords_have_n_bits (page_message k1 ds) (message_length k1 ds h)
      ∙ ap (word_bits k1 r1) (sym S.width_of_a_field)

  module _ (ds page source room behind after : List ℕ) (r : Result (Unit {0}) ℕ)
      (data_sized : length ds ≡ data_bytes k1) (page_sized : length page ≡ page_bytes k1 r1 t r2)
      (source_is : source ≡ ds ++ replicate (bytes_for (k1 + 1) - length ds) 0)
      (room_is : length room ≡ bytes_for (word_bits k1 r1 r2)) (behind_is : behind ≡ replicate (length page - bytes_for (word_bits k1 r1 r2)) 0)
      (told_is : r ≡ checked (k1 + 1) (word_bits k1 r1 r2) source room) where
    pub taken : r ≡ Ok tt
    taken =
        told_is
        ∙ passes (k1 + 1) (word_bits k1 r1 r2) source room
        (record { source_whole = message_whole k1 ds source data_sized source_is; buffer_whole = room_is; clear = message_clear k1 ds source data_sized source_is })

    pub made : Written r (codeword F checks (take (k1 + 1) (bits source))) room after → PageMade r (page_of k1 r1 t F checks ds) page (after ++ behind)
    made h = subst (λ (z : Result (Unit {0}) ℕ). PageMade z (page_of k1 r1 t F checks ds) page (after ++ behind)) (sym taken) (
        bits_append after behind ∙ ap₂ ◌++◌ front (ap bits behind_is ∙ bits_of_zeros (length page - b) ∙ ap (λ (i : ℕ). replicate i false) gap)
        ∙ padded_more (b * 8) (8 * length page) word (omega (arith, long)) (omega (arith, page_sized))
        ∙ ap (λ (i : ℕ). word ++ replicate i false) mark
        )
      where
        b : ℕ
        b = bytes_for (word_bits k1 r1 r2)

        word : List Bool
        word = codeword F checks (page_message k1 ds)

        long : length word ≡ word_bits k1 r1 r2
        long = word_length ds data_sized

        written : Written {A = Unit {0}} (Ok tt) (codeword F checks (take (k1 + 1) (bits source))) room after
        written = subst (λ (z : Result (Unit {0}) ℕ). Written z (codeword F checks (take (k1 + 1) (bits source))) room after) taken h

        front : bits after ≡ padded (b * 8) word
        front =
            written
            ∙ ap₂ (λ (i : ℕ) (m : List Bool). padded i (codeword F checks m)) (bits_length room ∙ ap (λ (i : ℕ). i * 8) room_is)
            (message_taken k1 ds source data_sized source_is)

        gap : (length page - b) * 8 ≡ 8 * length page - b * 8
        gap = omega arith

        mark : 8 * length page - length word ≡ mark_bits k1 r1 t (width F)
        mark = omega (arith, long, page_sized, S.width_of_a_field)

pub page_laws : (k1 r1 t r2 : ℕ) (F : Field) (Codeword : List Bool → Type 0) (checks : List Bool → List Bool)
    → IsInnerCode k1 r1 t Codeword checks → Setting k1 r1 t r2 F → PageLaws k1 r1 t F checks
page_laws k1 r1 t r2 F Codeword checks I S =
    let W = S.width_of_a_field in
    let mark = mark_bits k1 r1 t (width F) in
    record {
      mark_of_2t_and_1_at_least = omega arith;
      mark_ends_a_byte = omega arith;
      no_smaller_mark_does = λ m least ends. omega arith;
      pages_have_w_bytes = λ ds h.
          length-append (codeword F checks (page_message k1 ds)) (replicate mark false)
          ∙ ap₂ ◌+◌ (word_length I S ds h ∙ ap (word_bits k1 r1) W) (length-replicate {A = Bool} mark false)
          ∙ (let e : word_bits k1 r1 (width F) + mark ≡ 8 * page_bytes k1 r1 t (width F) = omega arith in e);
    }
