-- What a pass knows, and how each kind of step changes it.
use Rattle.std.specs.Prelude.{ℕ, ◌+◌, ◌^◌, ◌==◌, if◌then◌else◌, List, [], ◌∷◌, ◌++◌, Option, Some, None, Bool, false}
use Rattle.strip_turns.specs.declared.view.View.{View}
use Rattle.strip_turns.specs.declared.view.BoardStart.{BoardStart}
use Rattle.strip_turns.specs.declared.view.Met.{Met}
use Rattle.strip_turns.specs.declared.view.LogEntry.{LogEntry}
use Rattle.strip_turns.specs.declared.view.LogEntry.TheVariants.{Draw, Miss, Trip}

-- a pass that did nothing yet
abbrev pub fresh : Bool → ℕ → Option BoardStart → View
fresh first number card = record {
  card = card;
  first = first;
  number = number;
  splits = 0;
  out = [];
  drawn = 0;
  missed = 0;
  held = None;
  met = [];
  log = [];
}

-- what is left of a pass that was merged: it counts as one that drew and missed all that it may
abbrev pub spent : View
spent = record {
  card = None;
  first = false;
  number = 0;
  splits = 0;
  out = [];
  drawn = 2 ^ 32;
  missed = 2 ^ 32;
  held = None;
  met = [];
  log = [];
}

abbrev pub with_draw : ℕ → View → View
with_draw t v = record v { drawn = v.drawn + 1; log = v.log ++ Draw t ∷ [] }

abbrev pub with_miss : ℕ → View → View
with_miss k v = record v { missed = v.missed + 1; log = v.log ++ Miss k ∷ [] }

-- the strip k is taken, at a version
abbrev pub with_strip : ℕ → ℕ → View → View
with_strip k at v = record v { held = Some (record { strip = k; at = at }) }

-- the strip k, taken at `from`, is put back at `to`, and m misses are met
abbrev pub with_trip : ℕ → ℕ → ℕ → ℕ → View → View
with_trip k from to m v = record v {
  held = None;
  met = v.met ++ record { strip = k; misses = m } ∷ [];
  log = v.log ++ Trip k from to ∷ [];
}

abbrev pub with_split : View → View
with_split v = record v { splits = v.splits + 1; out = (v.splits + 1) ∷ v.out }

-- the numbers without n, where it comes first
abbrev pub without : ℕ → List ℕ → List ℕ
without n [] = []
without n (x ∷ xs) = if x == n then xs else x ∷ without n xs

-- a pass takes in what another did, which is then no longer out
abbrev pub with_pass : View → View → View
with_pass v w = record v { out = without w.number v.out; met = v.met ++ w.met; log = v.log ++ w.log }

-- entries after the log, and misses that were met
abbrev pub with_log : List LogEntry → List Met → View → View
with_log es ms v = record v { met = v.met ++ ms; log = v.log ++ es }
