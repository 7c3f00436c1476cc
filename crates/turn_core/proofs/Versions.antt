-- The versions of the strips after one of them, or the first k, were raised.
use Rattle.std.proofs.Common.{◌≡◌, ℕ, ◌+◌, ◌<◌, ◌≤◌, List, ◌++◌, length, map, take, drop, get_or, set, max, min, arith, sym, ap, ap₂, ◌∙◌}
use Rattle.std.proofs.lemmas.List.{append-nil, drop_all, get_or-map, map-set, take_all}
use Rattle.std.proofs.lemmas.List.Edits.{map_over_more}
use Rattle.strip_journal.specs.Strips.{StripOf}
use Rattle.turn_core.specs.World.{versions_of}

pub versions_set : (strips : List StripOf) (k : ℕ) (new : StripOf) → versions_of (set strips k new) ≡ set (versions_of strips) k new.done
versions_set strips k new = map-set (λ (z : StripOf). z.done) strips k new

pub version_at : (strips : List StripOf) (k : ℕ) (x : StripOf) → k < length strips
    → (get_or strips k x).done ≡ get_or (versions_of strips) k 0
version_at strips k x lt = sym (get_or-map (λ (z : StripOf). z.done) strips k x 0 lt)

-- the first k versions raised
abbrev pub first_raised : ℕ → ℕ → List ℕ → List ℕ
first_raised version k versions = map (λ v. max v version) (take k versions) ++ drop k versions

-- one version more is raised
pub raised_more : (strips : List StripOf) (version k : ℕ) (x new : StripOf) (versions : List ℕ) → k < length strips → k < length versions
    → versions_of strips ≡ first_raised version k versions → new.done ≡ max (get_or strips k x).done version
    → versions_of (set strips k new) ≡ first_raised version (k + 1) versions
raised_more strips version k x new versions lt below is done =
    versions_set strips k new ∙ ap (set (versions_of strips) k) done
    ∙ map_over_more (λ v. max v version) versions (versions_of strips) k (get_or strips k x).done below is
    (sym (get_or-map (λ (z : StripOf). z.done) strips k x (get_or strips k x).done lt))

pub raised_all : (version k : ℕ) (versions : List ℕ) → length versions ≤ k
    → first_raised version k versions ≡ map (λ v. max v version) versions
raised_all version k versions le =
    ap₂ (λ a b. map (λ v. max v version) a ++ b) (take_all k versions le) (drop_all k versions le)
    ∙ append-nil (map (λ v. max v version) versions)

-- a turn from a version leads to the next ones, as far as there are edits
pub next_from : (from edits : ℕ) → from ≤ edits → max from (min (from + 8) edits) ≡ min (from + 8) edits
next_from from edits within = omega arith
