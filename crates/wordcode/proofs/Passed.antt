-- What the checks of a call leave known once they have passed.
use Rattle.std.proofs.Common.{◌≡◌, ℕ, Bool, true, false, cond, eqb, List, length, Ok, Err, Result, refl, sym, ap, ◌∙◌, ap₂, arith}
use Rattle.std.proofs.lemmas.Bool.{eqb-true, eq-eqb}
use Rattle.inner.specs.Pages.{bytes_for, page_bytes}
use Rattle.wordcode.specs.Bytes.{spare_clear, checked}
use Rattle.wordcode.specs.Page.{data_bytes, page_checked}

pub record Passed (n m : ℕ) (source buffer : List ℕ) : Type 0 where
  pub source_whole : length source ≡ bytes_for n
  pub buffer_whole : length buffer ≡ bytes_for m
  pub clear : spare_clear n source ≡ true

-- both lengths are those that were asked for
pub lengths_pass : (a b : List ℕ) (n m : ℕ) → ◌≡◌ {A = Result (Unit {0}) ℕ} (Ok tt) (cond (eqb (length a) n) (cond (eqb (length b) m) (Ok tt) (Err 2)) (Err 2))
    → (length a ≡ n) × (length b ≡ m)
lengths_pass a b n m h = let both = two (eqb (length a) n) (eqb (length b) m) h in (eqb-true (length a) n both.0, eqb-true (length b) m both.1)
  where
    two : (x y : Bool) → ◌≡◌ {A = Result (Unit {0}) ℕ} (Ok tt) (cond x (cond y (Ok tt) (Err 2)) (Err 2)) → (x ≡ true) × (y ≡ true)
    two true true e = (refl, refl)
    two true false e = absurd (let z : ◌≡◌ {A = ℕ} 0 1 = cc in omega arith)
    two false y e = absurd (let z : ◌≡◌ {A = ℕ} 0 1 = cc in omega arith)

pub spare_bits_pass : (n : ℕ) (bs : List ℕ) → ◌≡◌ {A = Result (Unit {0}) ℕ} (Ok tt) (cond (spare_clear n bs) (Ok tt) (Err 7)) → spare_clear n bs ≡ true
spare_bits_pass n bs h = one (spare_clear n bs) h
  where
    one : (x : Bool) → ◌≡◌ {A = Result (Unit {0}) ℕ} (Ok tt) (cond x (Ok tt) (Err 7)) → x ≡ true
    one true e = refl
    one false e = absurd (let z : ◌≡◌ {A = ℕ} 0 1 = cc in omega arith)

-- what both checks say of a source of n bits and a buffer of m
pub passed_checks : (source buffer : List ℕ) (takes fills spare n m : ℕ) → takes ≡ bytes_for n → fills ≡ bytes_for m → spare ≡ n
    → ◌≡◌ {A = Result (Unit {0}) ℕ} (Ok tt) (cond (eqb (length source) takes) (cond (eqb (length buffer) fills) (Ok tt) (Err 2)) (Err 2))
    → ◌≡◌ {A = Result (Unit {0}) ℕ} (Ok tt) (cond (spare_clear spare source) (Ok tt) (Err 7)) → Passed n m source buffer
passed_checks source buffer takes fills spare n m et ef es lengths clear =
    let both = lengths_pass source buffer takes fills lengths in
    record {
      source_whole = both.0 ∙ et;
      buffer_whole = both.1 ∙ ef;
      clear = ap (λ (i : ℕ). spare_clear i source) (sym es) ∙ spare_bits_pass spare source clear;
    }

pub passes : (n m : ℕ) (source buffer : List ℕ) → Passed n m source buffer → checked n m source buffer ≡ Ok tt
passes n m source buffer P =
    ap₂ (λ (a b : Bool). cond a (cond b (cond (spare_clear n source) (Ok tt) (Err 7)) (Err 2)) (Err 2)) (eq-eqb (length source) (bytes_for n) P.source_whole)
    (eq-eqb (length buffer) (bytes_for m) P.buffer_whole)
    ∙ ap (λ (c : Bool). cond c (Ok tt) (Err 7)) P.clear

-- data and a page of the lengths that are asked for
pub record Sized (k1 r1 t r2 : ℕ) (ds page : List ℕ) : Type 0 where
  pub data_sized : length ds ≡ data_bytes k1
  pub page_sized : length page ≡ page_bytes k1 r1 t r2

pub sizes : (k1 r1 t r2 : ℕ) (ds page : List ℕ) → Sized k1 r1 t r2 ds page → page_checked k1 r1 t r2 ds page ≡ Ok tt
sizes k1 r1 t r2 ds page S =
    ap₂ (λ (a b : Bool). cond a (cond b (Ok tt) (Err 2)) (Err 2)) (eq-eqb (length ds) (data_bytes k1) S.data_sized)
    (eq-eqb (length page) (page_bytes k1 r1 t r2) S.page_sized)
