use Rattle.wordcode.proofs.Flips.{flip_law}
use Rattle.wordcode.proofs.laws.which_flips_pass.Goals as goal

pub returns : goal.returns
returns g c =
    let C = g.C.InnerCode in
    record { one_pattern_passes_all_and_any_other_one_filling_of_a_group = flip_law C.DATA C.CHECKS C.ERRORS C.TAIL C.FIELD C.codeword C.checks C.laws C.setting }
