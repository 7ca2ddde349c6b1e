use Rattle.std.proofs.Common.{sym, inl, inr, ⊎_elim, arith}
use Rattle.position.proofs.Found.{Found, found, no_label}
use Rattle.position.proofs.labels.place_of.Goals as goal

pub returns-then-label-eq0 : goal.returns-then-label-eq0
returns-then-label-eq0 c =
    record { a_place_with_that_label_or_none = no_label c.args.label (⊎_elim (λ e. inl e) (λ h. inr h.1) c.then-label-eq0.either) }

pub returns-then-is_power_of_two : goal.returns-then-is_power_of_two
returns-then-is_power_of_two c =
    let f = found c.ilog2-log.result c.args.label c.if-label-eq0.false c.if-label-gt554.false c.ilog2-log.ensures.power_le c.ilog2-log.ensures.next_power_gt in
    record { a_place_with_that_label_or_none = f.power (sym c.if-is_power_of_two.ensures) }

-- a label that is no power of two
other : (c : goal.Else-is_power_of_two) → Found c.ilog2-log.result c.args.label
other c =
    found c.ilog2-log.result c.args.label c.if-label-eq0.false c.if-label-gt554.false c.ilog2-log.ensures.power_le c.ilog2-log.ensures.next_power_gt

pub overflow_sub-result-2 : goal.overflow_sub-result-2
overflow_sub-result-2 c = omega (arith, (other c).fits (sym c.if-is_power_of_two.ensures))

pub overflow_sub-result-3 : goal.overflow_sub-result-3
overflow_sub-result-3 c = omega (arith, (other c).fits (sym c.if-is_power_of_two.ensures))

pub returns : goal.returns
returns c = record { a_place_with_that_label_or_none = (other c).other (sym c.if-is_power_of_two.ensures) }
