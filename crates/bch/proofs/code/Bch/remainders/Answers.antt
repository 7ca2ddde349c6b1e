use Rattle.std.proofs.Common.{refl, subst, sym}
use Rattle.gf2.specs.Product.{times_x}
use Rattle.gf2.specs.Words.{bits_of}
use Rattle.bch.specs.declared.code.Bch.{Bch}
use Rattle.bch.specs.declared.code.Bch.TheVariants.{Worked, Long}
use Rattle.bch.specs.Checks.{running, RemaindersOfBytes}
use Rattle.bch.specs.Settings.{generator_top, generator_tail}
use Rattle.bch.proofs.Bytes.{entries, rule}
use Rattle.bch.proofs.code.Bch.remainders.Goals as goal

pub returns-in-Worked : goal.returns-in-Worked
unfolding entries running times_x bits_of
returns-in-Worked c = record {
  each_at_its_byte = subst (λ (C : Bch). RemaindersOfBytes (generator_top C) (generator_tail C) _) (sym c.in-Worked.is) (rule (generator_top Worked) (generator_tail Worked) _ refl tt);
}

pub returns-in-Long : goal.returns-in-Long
unfolding entries running times_x bits_of
returns-in-Long c = record {
  each_at_its_byte = subst (λ (C : Bch). RemaindersOfBytes (generator_top C) (generator_tail C) _) (sym c.in-Long.is) (rule (generator_top Long) (generator_tail Long) _ refl tt);
}
