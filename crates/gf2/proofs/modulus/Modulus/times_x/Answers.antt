use Rattle.std.proofs.Common.{refl}
use Rattle.gf2.proofs.Masks.{times_x_set, times_x_clear}
use Rattle.gf2.proofs.modulus.Modulus.times_x.Goals as goal

pub returns-then-a-self-eq1 : goal.returns-then-a-self-eq1
returns-then-a-self-eq1 c =
    let m = c.args.self in
    record { moves_up_and_reduces = times_x_set 128 m.top m.tail c.args.a m.in_128_bits m.top refl m.tail refl c.if-a-self-eq1.true }

pub returns-else-a-self-eq1 : goal.returns-else-a-self-eq1
returns-else-a-self-eq1 c =
    let m = c.args.self in
    record { moves_up_and_reduces = times_x_clear 128 m.top m.tail c.args.a m.in_128_bits m.top refl c.if-a-self-eq1.false }
