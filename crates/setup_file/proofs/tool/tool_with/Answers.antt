use Rattle.std.proofs.Common.{pos, refl, arith}
use Rattle.std.proofs.lemmas.Int.{ints}
use Rattle.setup_file.specs.Limits.{most_tool_diameter, most_tool_height, most_tool_radius}
use Rattle.setup_file.proofs.Casts.{cast_back}
use Rattle.setup_file.proofs.Tools.{tool_cutter}
use Rattle.setup_file.proofs.tool.tool_with.Goals as goal

pub invariant_of-result : goal.invariant_of-result
invariant_of-result c =
    let d = cast_back (pos 1) (pos most_tool_diameter) c.args.diameter (omega (arith, ints)) (omega (arith, ints)) c.requires.diameter in
    let r = cast_back (pos 0) (pos most_tool_radius) c.args.radius (omega (arith, ints)) (omega (arith, ints)) c.requires.radius in
    let h = cast_back (pos 1) (pos most_tool_height) c.args.height (omega (arith, ints)) (omega (arith, ints)) c.requires.height in
    rw (d, r, h) (
      omega (arith, ints),
      c.requires.radius.from_least,
      omega (arith, ints),
      omega (arith, ints),
      tool_cutter c.args.diameter c.args.radius c.args.height c.requires.diameter c.requires.radius c.requires.height c.requires.corner c.requires.rounded,
    )

pub returns-clause-valid : goal.returns-clause-valid
returns-clause-valid c =
    let d = cast_back (pos 1) (pos most_tool_diameter) c.args.diameter (omega (arith, ints)) (omega (arith, ints)) c.requires.diameter in
    let r = cast_back (pos 0) (pos most_tool_radius) c.args.radius (omega (arith, ints)) (omega (arith, ints)) c.requires.radius in
    let h = cast_back (pos 1) (pos most_tool_height) c.args.height (omega (arith, ints)) (omega (arith, ints)) c.requires.height in
    rw (d, r, h) record {
      valid = tool_cutter c.args.diameter c.args.radius c.args.height c.requires.diameter c.requires.radius c.requires.height c.requires.corner c.requires.rounded;
      upright = refl;
      from_tip = refl;
    }
