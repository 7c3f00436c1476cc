use Rattle.std.proofs.Common.{Ok, pos, ◌*ℤ◌, ◌≤ℤ◌, ap, arith, rules}
use Rattle.std.proofs.lemmas.Int.{ints}
use Rattle.setup_file.specs.Limits.{most_tool_diameter, most_tool_height, most_tool_radius}
use Rattle.setup_file.proofs.GridShown.{int_le-from}
use Rattle.setup_file.specs.Tables.{tool_of}
use Rattle.setup_file.proofs.Casts.{passed}
use Rattle.setup_file.proofs.tool.read_tool.Goals as goal

pub returns-clause-tool : goal.returns-clause-tool
unfolding tool_of
returns-clause-tool c =
    let d = passed (pos 1) (pos most_tool_diameter) c.in_ok-diameter.diameter (omega (arith, ints)) (omega (arith, ints)) c.in_ok-diameter.ensures.range in
    let r = passed (pos 0) (pos most_tool_radius) c.in_ok-radius.radius (omega (arith, ints)) (omega (arith, ints)) c.in_ok-radius.ensures.range in
    let h = passed (pos 1) (pos most_tool_height) c.in_ok-height.height (omega (arith, ints)) (omega (arith, ints)) c.in_ok-height.ensures.range in
    let sizes = rw (d, r, h) at c.tool_with.ensures.sizes in
    let radius = c.in_ok-radius.radius in
    let diameter = c.in_ok-diameter.diameter in
    let height = c.in_ok-height.height in
    let corner : (pos 2 *ℤ radius) ≤ℤ diameter = search rules in
    let rounded : radius ≤ℤ height = search rules in
    rw (
      ← c.in_ok-diameter.ensures.value,
      ← c.in_ok-radius.ensures.value,
      int_le-from (pos 2 *ℤ radius) diameter corner,
      ← c.in_ok-height.ensures.value,
      int_le-from radius height rounded,
    ) (ap Ok sizes)

pub returns-in_err-radius-clause-tool : goal.returns-in_err-radius-clause-tool
unfolding tool_of
returns-in_err-radius-clause-tool c = rw (← c.in_ok-diameter.ensures.value) (search rules)

pub returns-in_err-only_if-clause-tool : goal.returns-in_err-only_if-clause-tool
unfolding tool_of
returns-in_err-only_if-clause-tool c = rw (← c.in_ok-diameter.ensures.value, ← c.in_ok-radius.ensures.value) (search rules)

pub returns-in_err-height-clause-tool : goal.returns-in_err-height-clause-tool
unfolding tool_of
returns-in_err-height-clause-tool c =
    let corner : (pos 2 *ℤ c.in_ok-radius.radius) ≤ℤ c.in_ok-diameter.diameter = search rules in
    rw (← c.in_ok-diameter.ensures.value, ← c.in_ok-radius.ensures.value, int_le-from (pos 2 *ℤ c.in_ok-radius.radius) c.in_ok-diameter.diameter corner) (search rules)

pub returns-in_err-only_if-2-clause-tool : goal.returns-in_err-only_if-2-clause-tool
unfolding tool_of
returns-in_err-only_if-2-clause-tool c =
    let corner : (pos 2 *ℤ c.in_ok-radius.radius) ≤ℤ c.in_ok-diameter.diameter = search rules in
    rw (
      ← c.in_ok-diameter.ensures.value,
      ← c.in_ok-radius.ensures.value,
      int_le-from (pos 2 *ℤ c.in_ok-radius.radius) c.in_ok-diameter.diameter corner,
      ← c.in_ok-height.ensures.value,
    ) (search rules)
