-- Square roots in whole numbers, rounded down and up.
use Rattle.std.specs.Prelude.{ℕ, zero, suc, ◌+◌, ◌*◌, if◌then◌else◌, ltb}

-- the greatest number whose square is at most n
abbrev pub floor_root : ℕ → ℕ
floor_root zero = 0
floor_root (suc n) = if ltb (suc n) ((floor_root n + 1) * (floor_root n + 1)) then floor_root n else floor_root n + 1

-- the least number whose square is at least n
abbrev pub ceil_root : ℕ → ℕ
ceil_root zero = 0
ceil_root (suc n) = if ltb (ceil_root n * ceil_root n) (suc n) then ceil_root n + 1 else ceil_root n
