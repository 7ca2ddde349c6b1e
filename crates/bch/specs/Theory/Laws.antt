-- The codes in use meet the laws of the trait of inner codes, as they meet those of InnerLaws.
use Rattle.std.specs.Prelude.{◌++◌}
use Rattle.std.proofs.Common.{sym, ◌∙◌}
use Rattle.std.proofs.lemmas.List.{append_cancel_left, take_at}
use Rattle.gf2.specs.declared.field.Field.TheVariants.{Three, Ten}
use Rattle.inner.specs.Code.{IsInnerCode, Setting}
use Rattle.inner.specs.Settings.{setting}
use Rattle.bch.specs.InnerLaws as laws
use Rattle.bch.specs.InnerLaws.{WordOf}
use Rattle.bch.specs.Theory.Inner as proved
use Rattle.bch.specs.declared.code.Bch.{Bch}
use Rattle.bch.specs.declared.code.Bch.TheVariants.{Worked, Long}
use Rattle.bch.specs.Codes.{WorkedCodeword, worked_checks, LongCodeword, long_checks}
use Rattle.bch.specs.Settings.{data_bits, check_bits, errors, checks}
use Rattle.bch.specs.Theory.Tested.{tested, whole}

module _ (C : Bch) where
  law : laws.IsInnerCode C
  law = proved.inner_code C

  pub inner_code : IsInnerCode (data_bits C) (check_bits C) (errors C) (WordOf C) (checks C)
  inner_code = record {
    corrects_some = (tested C).some;
    long = λ c h. h.long ∙ whole C;
    data_are_free = law.data_are_free;
    data_fix_the_checks = λ d p h a. append_cancel_left d p (checks C d)
        (law.data_fix_the_checks (d ++ p) (d ++ checks C d) a (law.data_are_free d h)
        (take_at d p (data_bits C) h ∙ sym (take_at d (checks C d) (data_bits C) h)));
    sums_stay_inside = law.sums_stay_inside;
    apart = law.apart;
  }

pub worked_setting : Setting 18 10 2 3 Three
worked_setting = setting 18 10 2 3 Three tt

pub long_setting : Setting 8200 70 5 10 Ten
long_setting = setting 8200 70 5 10 Ten tt

pub worked_inner_code : IsInnerCode 18 10 2 WorkedCodeword worked_checks
worked_inner_code = inner_code Worked

pub long_inner_code : IsInnerCode 8200 70 5 LongCodeword long_checks
long_inner_code = inner_code Long
