use Rattle.wordcode.proofs.Apart.{word_laws}
use Rattle.wordcode.proofs.laws.laws_of_words.Goals as goal

pub returns : goal.returns
returns g c =
    let C = g.C.InnerCode in
    record {
      codewords_are_apart_and_every_word_has_one_answer = word_laws C.DATA C.CHECKS C.ERRORS C.TAIL C.FIELD C.codeword C.checks C.laws C.setting;
    }
