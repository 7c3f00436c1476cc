-- The eight counts of one ray, from counts of two and of three sets.
use Rattle.std.proofs.Common.{◌≡◌, ℕ, List, length, Bool, not, ◌&&◌, ap, ◌∙◌, subst}
use Rattle.std.specs.List.{range_with_len}
use Rattle.vf_spans.specs.Members.{has, count_below}
use Rattle.vf_spans.specs.Words.{has_bit}
use Rattle.job_counts.specs.declared.counts.Counts.{Counts}
use Rattle.std.proofs.lemmas.List.Sums.{count_by-le-length}
use Rattle.job_counts.specs.Counts.{AreWithin}
use Rattle.dexel_rays.specs.Findings.{Seen, findings, is_removed, is_new_possible, is_part_sure, is_part_possible, is_fixture_sure, is_fixture_possible, is_rapid_sure, is_rapid_possible}
use Rattle.dexel_rays.specs.Sets.{Sets, HaveBound, seen_at}
use Rattle.dexel_rays.specs.WordSets.{seen_bit}
use Rattle.dexel_rays.specs.declared.word_sets.WordSets.{WordSets}

-- how many indices two sets have, and how many the first two have and the third has not
abbrev pub both : List Bool → List Bool → ℕ
both a b = count_below (length a) (λ i. has a i && has b i)

abbrev pub both_not : List Bool → List Bool → List Bool → ℕ
both_not a b c = count_below (length a) (λ i. has a i && (has b i && not (has c i)))

abbrev pub fast : Bool → List Bool → List Bool → List Bool → ℕ
fast rapid a b c = count_below (length a) (λ i. rapid && (has a i && (has b i && not (has c i))))

at : (d : Sets) (sure possible : List Bool) (rapid : Bool) (a b c e f g h k : ℕ) → HaveBound (length d.stock) d
    → a ≡ both_not d.stock sure d.sure → b ≡ both_not d.stock possible d.possible → c ≡ both d.part sure → e ≡ both d.part possible
    → f ≡ both d.fixture sure → g ≡ both d.fixture possible → h ≡ fast rapid d.stock sure d.possible → k ≡ fast rapid d.stock possible d.sure
    → let counts : Counts = record { removed = a; possible = b; part_sure = c; part_possible = e; fix_sure = f; fix_possible = g; rapid_sure = h; rapid_possible = k } in
    counts ≡ findings (seen_at d sure possible rapid) (range_with_len 0 (length d.stock))
at d sure possible rapid a b c e f g h k size ia ib ic ie jf jg jh jk =
    let n = length d.stock in
    let rc : c ≡ count_below n (λ i. has d.part i && has sure i) = ic ∙ ap (λ m. count_below m (λ i. has d.part i && has sure i)) size.part in
    let re : e ≡ count_below n (λ i. has d.part i && has possible i) = ie ∙ ap (λ m. count_below m (λ i. has d.part i && has possible i)) size.part in
    let rf : f ≡ count_below n (λ i. has d.fixture i && has sure i) = jf ∙ ap (λ m. count_below m (λ i. has d.fixture i && has sure i)) size.fixture in
    let rg : g ≡ count_below n (λ i. has d.fixture i && has possible i) = jg ∙ ap (λ m. count_below m (λ i. has d.fixture i && has possible i)) size.fixture in
    cc

-- as `at`, for a ray that is given by its parts
pub found_is : (i d : Sets) → i ≡ d → (sure possible : List Bool) (rapid : Bool) (a b c e f g h k : ℕ) → HaveBound (length i.stock) i
    → a ≡ both_not i.stock sure i.sure → b ≡ both_not i.stock possible i.possible → c ≡ both i.part sure → e ≡ both i.part possible
    → f ≡ both i.fixture sure → g ≡ both i.fixture possible → h ≡ fast rapid i.stock sure i.possible → k ≡ fast rapid i.stock possible i.sure
    → let counts : Counts = record { removed = a; possible = b; part_sure = c; part_possible = e; fix_sure = f; fix_possible = g; rapid_sure = h; rapid_possible = k } in
    counts ≡ findings (seen_at d sure possible rapid) (range_with_len 0 (length d.stock))
found_is i d is sure possible rapid a b c e f g h k size ia ib ic ie jf jg jh jk =
    let counts : Counts = record { removed = a; possible = b; part_sure = c; part_possible = e; fix_sure = f; fix_possible = g; rapid_sure = h; rapid_possible = k } in
    subst (λ (z : Sets). counts ≡ findings (seen_at z sure possible rapid) (range_with_len 0 (length z.stock))) is
    (at i sure possible rapid a b c e f g h k size ia ib ic ie jf jg jh jk)

-- the same for points that are the bits of words
pub word_found_is : (n : ℕ) (w : WordSets) (sure possible : ℕ) (rapid : Bool) (a b c e f g h k : ℕ)
    → a ≡ count_below n (λ i. has_bit w.stock i && (has_bit sure i && not (has_bit w.sure i)))
    → b ≡ count_below n (λ i. has_bit w.stock i && (has_bit possible i && not (has_bit w.possible i)))
    → c ≡ count_below n (λ i. has_bit w.part i && has_bit sure i) → e ≡ count_below n (λ i. has_bit w.part i && has_bit possible i)
    → f ≡ count_below n (λ i. has_bit w.fixture i && has_bit sure i) → g ≡ count_below n (λ i. has_bit w.fixture i && has_bit possible i)
    → h ≡ count_below n (λ i. rapid && (has_bit w.stock i && (has_bit sure i && not (has_bit w.possible i))))
    → k ≡ count_below n (λ i. rapid && (has_bit w.stock i && (has_bit possible i && not (has_bit w.sure i))))
    → let counts : Counts = record { removed = a; possible = b; part_sure = c; part_possible = e; fix_sure = f; fix_possible = g; rapid_sure = h; rapid_possible = k } in
    counts ≡ findings (seen_bit w sure possible rapid) (range_with_len 0 n)
word_found_is n w sure possible rapid a b c e f g h k ia ib ic ie jf jg jh jk = cc

-- no count is above the number of points
pub findings_within : {P : Type 0} → (see : P → Seen) (points : List P) → AreWithin (length points) (findings see points)
findings_within see points = record {
  removed = count_by-le-length (λ p. is_removed (see p)) points;
  possible = count_by-le-length (λ p. is_new_possible (see p)) points;
  part_sure = count_by-le-length (λ p. is_part_sure (see p)) points;
  part_possible = count_by-le-length (λ p. is_part_possible (see p)) points;
  fix_sure = count_by-le-length (λ p. is_fixture_sure (see p)) points;
  fix_possible = count_by-le-length (λ p. is_fixture_possible (see p)) points;
  rapid_sure = count_by-le-length (λ p. is_rapid_sure (see p)) points;
  rapid_possible = count_by-le-length (λ p. is_rapid_possible (see p)) points;
}
