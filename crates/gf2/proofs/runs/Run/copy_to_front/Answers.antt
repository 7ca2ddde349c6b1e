use Rattle.std.proofs.Common.{◌≡◌, ℕ, ◌+◌, ◌-◌, ◌*◌, ◌/◌, ◌%◌, ◌≤◌, Bool, List, length, take, drop, ap, ◌∙◌, ap₂, arith, length-drop}
use Rattle.gf2.specs.Words.{bits, with_run}
use Rattle.gf2.proofs.Places.{bits_length}
use Rattle.gf2.proofs.Overwriting.{run_from_byte, run_on}
use Rattle.gf2.proofs.Copying.{byte_set, from_byte}
use Rattle.gf2.proofs.runs.Run.copy_to_front.Goals as goal

pub loop-i-preserved : goal.loop-i-preserved
loop-i-preserved c =
    let ms = c.args.self.now.bytes.now in
    let s = drop c.args.self.now.skip (bits ms) in
    let O = bits c.args.out.now in
    let i = c.loop-i.i in
    let long : i * 8 + 8 ≤ length s = omega (arith, length-drop c.args.self.now.skip (bits ms), c.type_inv.self, c.loop-i-test.true) in
    byte_set c.loop-i.out i c.byte_behind.result (omega (arith, bits_length c.args.out.now, c.requires.out_has_room, c.loop-i-test.true))
    ∙ ap₂ (λ (r w : List Bool). with_run (i * 8) r w)
    (c.byte_behind.ensures.those_bits ∙ ap (take 8) (from_byte ms i c.args.self.now.skip (omega (arith, bits_length ms, c.type_inv.self, c.loop-i-test.true)))) c.loop-i.invariant
    ∙ run_on 0 (i * 8) 8 (i * 8) s O (omega arith) long (omega (arith, c.requires.out_has_room, c.loop-i-test.true))
    ∙ ap (λ (n : ℕ). with_run 0 (take n s) O) (let e : i * 8 + 8 ≡ (i + 1) * 8 = omega arith in e)

pub returns : goal.returns
returns c =
    let ms = c.args.self.now.bytes.now in
    let s = drop c.args.self.now.skip (bits ms) in
    let O = bits c.args.out.now in
    let k = c.args.self.now.count in
    let a = k / 8 in
    let long : a * 8 + k % 8 ≤ length s = omega (arith, length-drop c.args.self.now.skip (bits ms), c.type_inv.self) in
    let done : c.loop-i.i ≡ a = omega arith in
    record {
      copied =
          run_from_byte c.loop-i.out c.copy_few.new.out a 0 (take (k % 8) (drop c.args.self.now.skip (bits (take (length ms - a) (drop a ms)))))
          (omega (arith, bits_length c.args.out.now, c.requires.out_has_room)) c.copy_few.ensures.copied
          ∙ ap₂ (λ (r w : List Bool). with_run (a * 8 + 0) r w) (ap (take (k % 8)) (from_byte ms a c.args.self.now.skip (omega (arith, bits_length ms, c.type_inv.self))))
          (c.loop-i.invariant ∙ ap (λ (i : ℕ). with_run 0 (take (i * 8) s) O) done)
          ∙ run_on 0 (a * 8) (k % 8) (a * 8 + 0) s O (omega arith) long (omega (arith, c.requires.out_has_room))
          ∙ ap (λ (n : ℕ). with_run 0 (take n s) O) (let e : a * 8 + k % 8 ≡ k = omega arith in e);
    }
