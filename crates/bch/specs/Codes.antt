-- The codes of the settings worked and long, as other crates cite them.
use Rattle.std.specs.Prelude.{Bool, List}
use Rattle.bch.specs.declared.code.Bch.TheVariants.{Worked, Long}
use Rattle.bch.specs.InnerLaws.{WordOf}
use Rattle.bch.specs.Settings.{checks}

abbrev pub WorkedCodeword : List Bool → Type 0
WorkedCodeword = WordOf Worked

abbrev pub worked_checks : List Bool → List Bool
worked_checks = checks Worked

abbrev pub LongCodeword : List Bool → Type 0
LongCodeword = WordOf Long

abbrev pub long_checks : List Bool → List Bool
long_checks = checks Long
