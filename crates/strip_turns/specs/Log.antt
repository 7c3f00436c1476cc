-- What is in a log, counted.
use Rattle.std.specs.Prelude.{ℕ, ◌+◌, ◌==◌, List, [], ◌∷◌, if◌then◌else◌, nat_lt, max}
use Rattle.strip_turns.specs.declared.view.LogEntry.{LogEntry}
use Rattle.strip_turns.specs.declared.view.LogEntry.TheVariants.{Draw, Miss, Trip}
use Rattle.strip_turns.specs.declared.view.Met.{Met}

-- f of each entry, added up
abbrev pub tally : (LogEntry → ℕ) → List LogEntry → ℕ
tally f [] = 0
tally f (e ∷ es) = f e + tally f es

-- 1 for a draw of the ticket x
abbrev pub drew : ℕ → LogEntry → ℕ
drew x (Draw t) = if t == x then 1 else 0
drew x (Miss s) = 0
drew x (Trip s from to) = 0

-- 1 for a miss
abbrev pub missed : LogEntry → ℕ
missed (Draw t) = 0
missed (Miss s) = 1
missed (Trip s from to) = 0

-- 1 for a miss of the strip k
abbrev pub missed_at : ℕ → LogEntry → ℕ
missed_at k (Draw t) = 0
missed_at k (Miss s) = if s == k then 1 else 0
missed_at k (Trip s from to) = 0

-- 1 where a ≤ x < b
abbrev pub once_between : ℕ → ℕ → ℕ → ℕ
once_between a b x = if nat_lt x a then 0 else (if nat_lt x b then 1 else 0)

-- 1 for a trip of the strip k that does the edit x
abbrev pub did : ℕ → ℕ → LogEntry → ℕ
did k x (Draw t) = 0
did k x (Miss s) = 0
did k x (Trip s from to) = if s == k then once_between from to x else 0

-- 0 where a ≤ from ≤ to ≤ b
abbrev pub outside : ℕ → ℕ → ℕ → ℕ → ℕ
outside a b from to = if nat_lt from a then 1 else (if nat_lt to from then 1 else (if nat_lt b to then 1 else 0))

-- 1 for a trip of the strip k that goes below a, past b or back
abbrev pub strayed : ℕ → ℕ → ℕ → LogEntry → ℕ
strayed k a b (Draw t) = 0
strayed k a b (Miss s) = 0
strayed k a b (Trip s from to) = if s == k then outside a b from to else 0

-- where the log has seen the strip k: the furthest end of its trips, and v where there is none
abbrev pub logged_version : ℕ → ℕ → List LogEntry → ℕ
logged_version k v [] = v
logged_version k v (Draw t ∷ es) = logged_version k v es
logged_version k v (Miss s ∷ es) = logged_version k v es
logged_version k v (Trip s from to ∷ es) = logged_version k (if s == k then max v to else v) es

-- the misses of the strip k that were met when it was put back
abbrev pub met_at : ℕ → List Met → ℕ
met_at k [] = 0
met_at k (m ∷ ms) = (if m.strip == k then m.misses else 0) + met_at k ms
