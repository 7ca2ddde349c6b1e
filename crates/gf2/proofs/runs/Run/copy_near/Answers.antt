use Rattle.std.proofs.Common.{◌≡◌, ◌+◌, ◌-◌, ◌*◌, ◌/◌, ◌%◌, ◌≤◌, Bool, List, length, take, drop, sym, ap, ◌∙◌, ap₂, arith, length-drop, drop-drop}
use Rattle.gf2.specs.Words.{bits, with_run}
use Rattle.gf2.proofs.Places.{bits_length, bits_from}
use Rattle.gf2.proofs.Overwriting.{run_from_byte}
use Rattle.gf2.proofs.Copying.{run_rest}
use Rattle.gf2.proofs.runs.Run.copy_near.Goals as goal

pub returns : goal.returns
returns c =
    let ms = c.args.self.now.bytes.now in
    let s = drop c.args.self.now.skip (bits ms) in
    let O = bits c.args.out.now in
    let k = c.args.self.now.count in
    let n = c.min-first.result in
    let a = (c.args.at + n) / 8 in
    let q = c.args.self.now.skip + n in
    let fits : n ≤ k = omega (arith, c.min-first.ensures) in
    let slice = take (length ms - q / 8) (drop (q / 8) ms) in
    let rest : drop (q % 8) (bits slice) ≡ drop n s =
    bits_from ms q (omega (arith, bits_length ms, c.type_inv.self)) ∙ sym (drop-drop n c.args.self.now.skip (bits ms)) in
    record {
      copied =
          run_from_byte c.copy_few.new.out c.copy_to_front.new.out a 0 (take (k - n) (drop (q % 8) (bits slice)))
          (omega (arith, bits_length c.args.out.now, c.requires.out_has_room, c.copy_few.auto.out)) c.copy_to_front.ensures.copied
          ∙ ap₂ (λ (r w : List Bool). with_run (a * 8 + 0) r w) (ap (take (k - n)) rest) c.copy_few.ensures.copied
          ∙ run_rest c.args.at n k (a * 8 + 0) s O fits (omega (arith, length-drop c.args.self.now.skip (bits ms), c.type_inv.self)) (omega (arith, c.requires.out_has_room))
          (λ more. omega (arith, more, c.min-first.ensures, c.requires.near));
    }
