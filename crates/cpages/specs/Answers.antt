-- Answers as one number: 0, or that of the refusal.
use Rattle.std.specs.Prelude.{◌≡◌, ℕ, List, Ok, Err, Result}
use Rattle.gf2.specs.declared.field.Field.TheVariants.{Ten}
use Rattle.bch.specs.Codes.{long_checks}
use Rattle.wordcode.specs.declared.refusal.Refusal.{Refusal}
use Rattle.wordcode.specs.declared.page.PageReading.{PageReading}
use Rattle.wordcode.specs.Refusals.{told}
use Rattle.wordcode.specs.Page.{page_checked, PageRead}

abbrev pub answer_number : {A : Type 0} → Result A ℕ → ℕ
answer_number (Ok a) = 0
answer_number (Err n) = n

-- the page is read, and the number is that of what is told of it
abbrev pub PageReadAs : List ℕ → List ℕ → List ℕ → ℕ → Type 0
PageReadAs page before after number =
    (r : Result PageReading Refusal) × PageRead (page_checked 8200 70 5 10 before page) 8200 70 5 Ten long_checks page before after r × (number ≡ answer_number (told r))
