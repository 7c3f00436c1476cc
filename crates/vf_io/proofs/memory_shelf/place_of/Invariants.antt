use Rattle.std.proofs.Common.{◌≡◌, None, take, map, string_bytes}
use Rattle.std.specs.Ordering.{nat_cmp}
use Rattle.std.specs.Cmp.Lexicographic.{slice_cmp}
use Rattle.std.specs.FinMap.{find}
use Rattle.vf_io.proofs.memory_shelf.place_of.Given as goal

abbrev pub invariant-loop-place : goal.invariant-loop-place
invariant-loop-place l = find (slice_cmp nat_cmp) l.name (take l.place (map (λ f. (string_bytes f.0, f.1.items)) l.files)) ≡ None
