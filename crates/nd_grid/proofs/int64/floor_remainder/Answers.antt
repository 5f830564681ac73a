use Rattle.std.proofs.Common.{rules, ◌+ℤ◌, w64}
use mir.Val.{SFits}
use Rattle.nd_grid.proofs.Floor.{exit_rem_pos, exit_rem_whole, exit_rem_left}
use Rattle.nd_grid.proofs.int64.floor_remainder.Goals as goal
use Rattle.nd_grid.proofs.int64.floor_remainder.Goals.{else-b-lt0-via-then-b-lt0+else-rest-ne0, else-b-lt0-via-else-b-lt0}

pub returns-then-rest-ne0 : goal.returns-then-rest-ne0
returns-then-rest-ne0 c =
    let fits : SFits w64 (c.rem_euclid-rest.result +ℤ c.args.b) = search rules in
    exit_rem_left c.args.a c.args.b c.rem_euclid-rest.result c.ranges.a c.ranges.b (record { sfits = c.rem_euclid-rest.type_inv }) fits c.if-b-lt0.true c.rem_euclid-rest.ensures.value c.if-rest-ne0.true

pub returns-else-b-lt0 : goal.returns-else-b-lt0
returns-else-b-lt0 c =
    elim c.else-b-lt0.branch [
      | else-b-lt0-via-then-b-lt0+else-rest-ne0 w ↦
          exit_rem_whole c.args.a c.args.b c.rem_euclid-rest.result c.ranges.a c.ranges.b (record { sfits = c.rem_euclid-rest.type_inv }) w.if-b-lt0.true c.rem_euclid-rest.ensures.value w.if-rest-ne0.false
      | else-b-lt0-via-else-b-lt0 w ↦
          exit_rem_pos c.args.a c.args.b c.rem_euclid-rest.result c.ranges.a c.ranges.b (record { sfits = c.rem_euclid-rest.type_inv }) c.requires w.if-b-lt0.false c.rem_euclid-rest.ensures.value
    ]
