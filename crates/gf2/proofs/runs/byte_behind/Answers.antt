use Rattle.std.proofs.Common.{ℕ, take, drop, sym, ap, ◌∙◌, arith}
use Rattle.gf2.specs.Words.{bits}
use Rattle.gf2.proofs.Windows.{byte_across, first_byte}
use Rattle.gf2.proofs.runs.byte_behind.Goals as goal

pub returns-then-skip-eq0 : goal.returns-then-skip-eq0
returns-then-skip-eq0 c =
    let bs = c.args.bytes.now in
    record { those_bits = first_byte bs (omega (arith, c.requires.has_them)) ∙ ap (λ (s : ℕ). take 8 (drop s (bits bs))) (sym c.if-skip-eq0.true) }

pub returns : goal.returns
returns c =
    record { those_bits = byte_across c.args.bytes.now c.args.skip (λ i. omega (arith, c.type_inv.bytes i)) (omega arith) c.requires.near c.requires.has_them }
