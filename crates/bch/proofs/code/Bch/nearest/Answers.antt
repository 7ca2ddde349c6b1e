use Rattle.std.proofs.Common.{Some, ap, ◌∙◌, sym, arith}
use Rattle.gf2.specs.Words.{bits}
use Rattle.gf2.proofs.Places.{bits_length}
use Rattle.bch.proofs.Correcting.{unchanged, searched, accepted, too_many_flips, not_a_codeword}
use Rattle.bch.proofs.Rest.{given}
use Rattle.bch.proofs.code.Bch.nearest.Goals as goal
use Rattle.bch.proofs.code.Bch.nearest.Goals.{else-flips-errors-via-then-flips-errors+else-eq, else-flips-errors-via-else-flips-errors}

pub returns-then-rest-eq0 : goal.returns-then-rest-eq0
returns-then-rest-eq0 c = record {
  the_codeword_at_most_t_bits_away_or_none =
      unchanged c.args.self (bits c.args.word.now) (ap Some (sym c.if-rest-eq0.true) ∙ c.in_ok-rest.ensures.checks_asked_for_and_found);
}

pub flip_roots-requires : goal.flip_roots-requires
flip_roots-requires c = record {
  enough = omega (
    arith,
    (given c.args.self (bits c.args.word.now) c.in_ok-rest.rest c.in_ok-rest.ensures.checks_asked_for_and_found).0,
    bits_length c.args.word.now,
    bits_length c.flip_roots-flips.new.bytes,
    c.flip_roots-flips.auto.bytes,
  );
}

pub returns-then-eq : goal.returns-then-eq
returns-then-eq c =
    let C = c.args.self in
    let B = bits c.args.word.now in
    let A = bits c.flip_roots-flips.new.bytes in
    let found = searched C B A c.syndromes.result.field c.syndromes.result.members c.in_ok-rest.rest c.errors.result c.solve-left.result.polys.items
    c.in_ok-rest.ensures.checks_asked_for_and_found c.syndromes.ensures.in_the_field c.errors.ensures.wrong_bits_that_are_corrected
    c.syndromes.ensures.up_to_twice_t c.solve-left.ensures.meet_all_equations c.flip_roots-flips.ensures.flips_the_roots in
    record {
      the_codeword_at_most_t_bits_away_or_none =
          accepted C B A _ found c.flip_roots-flips.result c.flip_roots-flips.ensures.counts_the_roots
          (omega (arith, c.errors-2.ensures.wrong_bits_that_are_corrected)) c.rest-then-flips-errors.result c.rest-then-flips-errors.ensures.checks_asked_for_and_found
          c.if-eq.ensures;
    }

pub returns : goal.returns
returns c =
    let C = c.args.self in
    let B = bits c.args.word.now in
    let A = bits c.flip_roots-flips.new.bytes in
    let L = bits c.flip_roots.new.bytes in
    let found = searched C B A c.syndromes.result.field c.syndromes.result.members c.in_ok-rest.rest c.errors.result c.solve-left.result.polys.items
    c.in_ok-rest.ensures.checks_asked_for_and_found c.syndromes.ensures.in_the_field c.errors.ensures.wrong_bits_that_are_corrected
    c.syndromes.ensures.up_to_twice_t c.solve-left.ensures.meet_all_equations c.flip_roots-flips.ensures.flips_the_roots in
    record {
      the_codeword_at_most_t_bits_away_or_none =
          elim c.else-flips-errors.branch [
            | else-flips-errors-via-then-flips-errors+else-eq w ↦
                not_a_codeword C B A _ found w.rest-then-flips-errors.result w.rest-then-flips-errors.ensures.checks_asked_for_and_found w.if-eq.ensures L
                c.flip_roots.ensures.flips_the_roots
            | else-flips-errors-via-else-flips-errors w ↦
                too_many_flips C B A _ found c.flip_roots-flips.result c.flip_roots-flips.ensures.counts_the_roots
                (omega (arith, w.if-flips-errors.false, c.errors-2.ensures.wrong_bits_that_are_corrected)) L c.flip_roots.ensures.flips_the_roots
          ];
    }
