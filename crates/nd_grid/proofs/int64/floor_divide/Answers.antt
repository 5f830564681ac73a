use Rattle.std.proofs.Common.{rules, ◌-ℤ◌, pos, w64}
use mir.Val.{SFits}
use Rattle.nd_grid.proofs.Floor.{exit_minus_one, exit_pos, exit_whole, exit_left}
use Rattle.nd_grid.proofs.int64.floor_divide.Goals as goal
use Rattle.nd_grid.proofs.int64.floor_divide.Goals.{else-b-lt0-via-then-b-lt0+else-rem_euclid-ne0, else-b-lt0-via-else-b-lt0}

pub returns-then-b-eqminus1 : goal.returns-then-b-eqminus1
returns-then-b-eqminus1 c =
    exit_minus_one c.args.a c.args.b c.wrapping_neg.result c.ranges.a c.ranges.b (record { sfits = c.wrapping_neg.type_inv }) c.if-b-eqminus1.true c.wrapping_neg.ensures

pub returns-then-rem_euclid-ne0 : goal.returns-then-rem_euclid-ne0
returns-then-rem_euclid-ne0 c =
    let fits : SFits w64 (c.div_euclid-quotient.result -ℤ pos 1) = search rules in
    exit_left c.args.a c.args.b c.div_euclid-quotient.result c.rem_euclid.result c.ranges.a c.ranges.b (record { sfits = c.div_euclid-quotient.type_inv }) fits c.if-b-lt0.true c.div_euclid-quotient.ensures
    c.rem_euclid.ensures.value c.if-rem_euclid-ne0.true

pub returns-else-b-lt0 : goal.returns-else-b-lt0
returns-else-b-lt0 c =
    elim c.else-b-lt0.branch [
      | else-b-lt0-via-then-b-lt0+else-rem_euclid-ne0 w ↦
          exit_whole c.args.a c.args.b c.div_euclid-quotient.result w.rem_euclid.result c.ranges.a c.ranges.b (record { sfits = c.div_euclid-quotient.type_inv }) (record { sfits = w.rem_euclid.type_inv }) w.if-b-lt0.true c.div_euclid-quotient.ensures
          w.rem_euclid.ensures.value w.if-rem_euclid-ne0.false
      | else-b-lt0-via-else-b-lt0 w ↦
          exit_pos c.args.a c.args.b c.div_euclid-quotient.result c.ranges.a c.ranges.b (record { sfits = c.div_euclid-quotient.type_inv }) c.requires w.if-b-lt0.false c.div_euclid-quotient.ensures
    ]
