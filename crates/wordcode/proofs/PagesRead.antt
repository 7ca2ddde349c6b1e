-- Pages read: the word in front of the mark, and the data bytes of its message.
use Rattle.std.proofs.Common.{◌≡◌, ℕ, ◌+◌, ◌-◌, ◌*◌, ◌≤◌, Bool, true, false, cond, eqb, List, ◌++◌, length, take, drop, replicate, Ok, Err, Result, sym, refl, ap, ◌∙◌, subst, arith, length-append, take-append-drop, take_at, drop_at}
use lib.ListN.{length-replicate}
use lib.Seq.{take-append-le}
use Rattle.std.proofs.lemmas.List.{length-take-le, append-nil}
use Rattle.std.proofs.lemmas.Bool.{eq-eqb}
use Rattle.gf2.specs.declared.field.Field.{Field}
use Rattle.gf2.specs.Words.{weight, bits}
use Rattle.gf2.specs.Fields.{width}
use Rattle.gf2.proofs.Sums.{weight_zeros}
use Rattle.gf2.proofs.Places.{bits_length, bits_take}
use Rattle.inner.specs.Pages.{word_bits, bytes_for, page_bytes}
use Rattle.inner.specs.Code.{Setting}
use Rattle.wordcode.specs.declared.refusal.Refusal.{Refusal}
use Rattle.wordcode.specs.declared.word.Reading.{Reading as ReadingOf}
use Rattle.wordcode.specs.declared.page.PageReading.{PageReading}
use Rattle.wordcode.specs.declared.page.PageReading.TheVariants.{Word}
use Rattle.wordcode.specs.Refusals.{number_of, told}
use Rattle.wordcode.specs.Bytes.{padded, spare_clear, checked}
use Rattle.wordcode.specs.Reading.{Answer, gives, unreadable, Reads}
use Rattle.wordcode.specs.Encoding.{Written, told_of, message_in, ReadByTheRules}
use Rattle.wordcode.specs.Page.{data_bytes, page_checked, marked, WordTold, PageByItsMark, PageRead}
use Rattle.wordcode.proofs.Padding.{padded_take}
use Rattle.wordcode.proofs.Passed.{lengths_pass, passes, Sized, sizes}

-- the data bytes at the front of a message's buffer
data_taken : (b : ℕ) (before after behind out : List ℕ) → b ≡ length before → b ≤ length after
    → out ≡ take b (after ++ behind) ++ replicate (length before - length (take b (after ++ behind))) 0 → bits out ≡ take (8 * length before) (bits after)
data_taken b before after behind out is fit e =
    ap bits (e ∙ ap (λ (l : List ℕ). l ++ replicate (length before - length l) 0) (take-append-le b after behind fit) ∙ alone ∙ append-nil (take b after))
    ∙ bits_take b after fit ∙ ap (λ (i : ℕ). take i (bits after)) (let n : b * 8 ≡ 8 * length before = omega arith in n)
  where
    alone : take b after ++ replicate (length before - length (take b after)) 0 ≡ take b after ++ replicate 0 0
    alone = ap (λ (i : ℕ). take b after ++ replicate i 0) (let n : length before - length (take b after) ≡ 0 = omega (arith, length-take-le b after fit) in n)

-- a buffer whose front was lent and came back
pub buffer_length : (b : ℕ) (front buffer : List ℕ) → length front ≡ length (take b buffer) → length (front ++ drop b buffer) ≡ length buffer
buffer_length b front buffer h =
    length-append front (drop b buffer) ∙ ap (λ (i : ℕ). i + length (drop b buffer)) h ∙ sym (length-append (take b buffer) (drop b buffer))
    ∙ ap length (take-append-drop b buffer)

-- a word that was not read
word_refused : (a : Answer) (before : List ℕ) (e : Refusal) → told {A = ReadingOf} (Err e) ≡ told_of a → WordTold a before before (told (Err e))
word_refused (gives m d over) before e h = absurd (let z : ◌≡◌ {A = ℕ} 0 1 = cc in omega arith)
word_refused unreadable before e h = (ap Err (let z : number_of e ≡ 8 = cc in z), refl)

-- a word that was read
word_given : (k1 r1 t : ℕ) (F : Field) (checks : List Bool → List Bool) (word : List Bool) (a : Answer) (room after before out : List ℕ) (x : ReadingOf)
    → Reads k1 r1 t F checks word a → told (Ok x) ≡ told_of a → Written (told_of a) (message_in a) room after → length before ≡ data_bytes k1
    → bits out ≡ take (8 * length before) (bits after) → WordTold a before out (told (Ok (Word x)))
word_given k1 r1 t F checks word unreadable room after before out x reads tells written size taken = absurd (let z : ◌≡◌ {A = ℕ} 0 1 = cc in omega arith)
word_given k1 r1 t F checks word (gives m d over) room after before out x reads tells written size taken = (
  ap (λ (y : ReadingOf). Ok (Word y)) (let z : x ≡ record { distance = d; over = over } = cc in z),
  taken ∙ ap (take (8 * length before)) written
      ∙ take-append-le (8 * length before) m (replicate (length (bits room) - length m) false) (omega (arith, long over reads, size)),
)
  where
    long : (o : Bool) → Reads k1 r1 t F checks word (gives m d o) → length m ≡ k1 + 1
    long true r = r.1.long
    long false r = r.0.long

-- the word cut out of a page, in whole bytes at the front of a buffer
module _ {k1 r1 t r2 : ℕ} {F : Field} (checks : List Bool → List Bool) (S : Setting k1 r1 t r2 F) (page buffer room : List ℕ) (N b : ℕ)
    (enough : word_bits k1 r1 r2 ≤ length (bits page)) (b_is : b ≡ bytes_for (word_bits k1 r1 r2)) (fits : b ≤ length buffer) (inside : b * 8 ≤ N)
    (copied : bits buffer ≡ padded N (take (word_bits k1 r1 r2) (bits page))) (room_is : length room ≡ bytes_for (k1 + 1)) where
  word_length : length (take (word_bits k1 r1 r2) (bits page)) ≡ word_bits k1 r1 r2
  word_length = length-take-le (word_bits k1 r1 r2) (bits page) enough

  word_is : bits (take b buffer) ≡ padded (b * 8) (take (word_bits k1 r1 r2) (bits page))
  word_is =
      bits_take b buffer fits ∙ ap (take (b * 8)) copied
      ∙ padded_take (b * 8) N (take (word_bits k1 r1 r2) (bits page)) (omega (arith, word_length)) inside

  front : take (word_bits k1 r1 r2) (bits (take b buffer)) ≡ take (word_bits k1 r1 r2) (bits page)
  front =
      ap (take (word_bits k1 r1 r2)) word_is
      ∙ take_at w (replicate (b * 8 - length w) false) (word_bits k1 r1 r2) word_length
    where
      w : List Bool
      w = take (word_bits k1 r1 r2) (bits page)

  clear : spare_clear (word_bits k1 r1 r2) (take b buffer) ≡ true
  clear =
      eq-eqb (weight (drop (word_bits k1 r1 r2) (bits (take b buffer)))) 0
      (ap (λ (v : List Bool). weight (drop (word_bits k1 r1 r2) v)) word_is
      ∙ ap weight (drop_at w (replicate (b * 8 - length w) false) (word_bits k1 r1 r2) word_length) ∙ weight_zeros (b * 8 - length w))
    where
      w : List Bool
      w = take (word_bits k1 r1 r2) (bits page)

  -- so its reading is that of the page's first bits, and no length or spare bit is refused
  answered : (after : List ℕ) (r : Result ReadingOf Refusal)
      → ReadByTheRules k1 r1 t F checks (checked (word_bits k1 r1 r2) (k1 + 1) (take b buffer) room) (take b buffer) room after r
      → (a : Answer) × Reads k1 r1 t F checks (take (word_bits k1 r1 (width F)) (bits page)) a × (told r ≡ told_of a) × Written (told_of a) (message_in a) room after
  answered after r h =
      let q = subst (λ (z : Result (Unit {0}) ℕ). ReadByTheRules k1 r1 t F checks z (take b buffer) room after r)
      (passes (word_bits k1 r1 r2) (k1 + 1) (take b buffer) room
      (record { source_whole = length-take-le b buffer fits ∙ b_is; buffer_whole = room_is; clear = clear })) h in (
        q.0,
        subst (λ (w : List Bool). Reads k1 r1 t F checks w q.0)
            (subst (λ (i : ℕ). take (word_bits k1 r1 i) (bits (take b buffer)) ≡ take (word_bits k1 r1 i) (bits page)) S.width_of_a_field front) q.1,
        q.2,
        q.3,
      )

-- a buffer as it is made
abbrev pub scratch : List ℕ
scratch = replicate 2048 0

-- a page of the right length with its mark; n, wb, mb and db are the bits of a word and the bytes of a word, a message and data
module _ {k1 r1 t r2 : ℕ} {F : Field} (checks : List Bool → List Bool) (S : Setting k1 r1 t r2 F) (n wb mb db pb : ℕ)
    (n_is : n ≡ word_bits k1 r1 r2) (wb_is : wb ≡ bytes_for (word_bits k1 r1 r2)) (mb_is : mb ≡ bytes_for (k1 + 1)) (db_is : db ≡ data_bytes k1)
    (pb_is : pb ≡ page_bytes k1 r1 t r2) (page before : List ℕ)
    (lengths : ◌≡◌ {A = Result (Unit {0}) ℕ} (Ok tt) (cond (eqb (length before) db) (cond (eqb (length page) pb) (Ok tt) (Err 2)) (Err 2))) where
  fit : Sized k1 r1 t r2 before page
  fit = let both = lengths_pass before page db pb lengths in record { data_sized = both.0 ∙ db_is; page_sized = both.1 ∙ pb_is }

  pub page_holds_a_word : n ≤ length (bits page)
  page_holds_a_word = omega (arith, n_is, fit.page_sized, bits_length page)

  pub page_small : length page ≤ 2048
  page_small = omega (arith, fit.page_sized, S.page_fits)

  by_the_mark : (after : List ℕ) (q : Result PageReading Refusal) → true ≡ marked (drop n (bits page))
      → PageByItsMark true k1 r1 t F checks page before after (told q) → PageRead (page_checked k1 r1 t r2 before page) k1 r1 t F checks page before after q
  by_the_mark after q mark is =
      subst (λ (y : Result (Unit {0}) ℕ). PageRead y k1 r1 t F checks page before after q) (sym (sizes k1 r1 t r2 before page fit))
      (subst (λ (b : Bool). PageByItsMark b k1 r1 t F checks page before after (told q))
      (mark ∙ ap (λ (i : ℕ). marked (drop i (bits page))) (n_is ∙ ap (word_bits k1 r1) S.width_of_a_field)) is)

  room_whole : length (take mb scratch) ≡ bytes_for (k1 + 1)
  room_whole = length-take-le mb scratch (omega (arith, mb_is, S.page_fits, length-replicate {A = ℕ} 2048 0)) ∙ mb_is

  module _ (word after : List ℕ) (mark : true ≡ marked (drop n (bits page))) (word_kept : length word ≡ 2048)
      (cut : bits word ≡ padded (length (bits scratch)) (take n (bits page))) where
    answers : (q : Result ReadingOf Refusal)
        → ReadByTheRules k1 r1 t F checks (checked (word_bits k1 r1 r2) (k1 + 1) (take wb word) (take mb scratch)) (take wb word) (take mb scratch) after q
        → (a : Answer) × Reads k1 r1 t F checks (take (word_bits k1 r1 (width F)) (bits page)) a × (told q ≡ told_of a)
        × Written (told_of a) (message_in a) (take mb scratch) after
    answers q =
        answered checks S page word (take mb scratch) (length (bits scratch)) wb
        (omega (arith, page_holds_a_word, n_is)) wb_is (omega (arith, wb_is, word_kept, S.page_fits))
        (omega (arith, wb_is, S.page_fits, bits_length scratch, length-replicate {A = ℕ} 2048 0))
        (cut ∙ ap (λ (i : ℕ). padded (length (bits scratch)) (take i (bits page))) n_is) room_whole after q

    pub refused : (x : Refusal) (q : Result PageReading Refusal) → q ≡ Err x
        → ReadByTheRules k1 r1 t F checks (checked (word_bits k1 r1 r2) (k1 + 1) (take wb word) (take mb scratch)) (take wb word) (take mb scratch) after (Err x)
        → PageRead (page_checked k1 r1 t r2 before page) k1 r1 t F checks page before before q
    refused x q is reads =
        let a = answers (Err x) reads in
        subst (λ (y : Result PageReading Refusal). PageRead (page_checked k1 r1 t r2 before page) k1 r1 t F checks page before before y) (sym is)
        (by_the_mark before (Err x) mark (a.0, a.1, word_refused a.0 before x a.2))

    pub given : (x : ReadingOf) (out : List ℕ)
        → ReadByTheRules k1 r1 t F checks (checked (word_bits k1 r1 r2) (k1 + 1) (take wb word) (take mb scratch)) (take wb word) (take mb scratch) after (Ok x)
        → length after ≡ length (take mb scratch)
        → out ≡ take db (after ++ drop mb scratch) ++ replicate (length before - length (take db (after ++ drop mb scratch))) 0
        → PageRead (page_checked k1 r1 t r2 before page) k1 r1 t F checks page before out (Ok (Word x))
    given x out reads kept copied =
        let a = answers (Ok x) reads in
        by_the_mark out (Ok (Word x)) mark (
          a.0,
          a.1,
          word_given k1 r1 t F checks (take (word_bits k1 r1 (width F)) (bits page)) a.0 (take mb scratch) after before out x a.1 a.2 a.3 fit.data_sized
              (data_taken db before after (drop mb scratch) out (db_is ∙ sym fit.data_sized) (omega (arith, db_is, kept, room_whole)) copied),
        )
