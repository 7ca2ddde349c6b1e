use Rattle.wordcode.proofs.PagesMade.{page_laws}
use Rattle.wordcode.proofs.laws.laws_of_pages.Goals as goal

pub returns : goal.returns
returns g c =
    let C = g.C.InnerCode in
    record {
      the_mark_is_the_least_that_ends_a_byte_and_pages_have_w_bytes = page_laws C.DATA C.CHECKS C.ERRORS C.TAIL C.FIELD C.codeword C.checks C.laws C.setting;
    }
