-- Rays with their settled ranges, and one more.
use Rattle.std.proofs.Common.{◌≡◌, ◌≢◌, ℕ, ◌+◌, ◌<◌, ◌≤◌, List, [], ◌∷◌, ◌++◌, length, get_or, set, ⊎_elim, arith, sym, ◌∙◌, subst, length-append}
use Rattle.std.proofs.lemmas.Bool.{cases_eq, cases_lt}
use Rattle.std.proofs.lemmas.List.{get_or_append_left, get_or_push, get_or-set_other, get_or-set_same}
use Rattle.std.proofs.Math.ListN.{length-set}
use Rattle.ray_words.specs.Rays.{HasNoneWanted, KeptSets}
use Rattle.ray_words.specs.Rows.{AreSettled, kept_at}

-- a ray that is not in the list
abbrev pub no_ray : KeptSets
no_ray = record { sets = record { stock = []; part = []; fixture = []; sure = []; possible = [] }; first = 0; count = 0 }

-- one ray more, with a range in which nothing is wanted
settled_push : (rays : List KeptSets) (ranges : List (ℕ × ℕ)) (ray : KeptSets) (range : ℕ × ℕ) → AreSettled rays ranges
    → HasNoneWanted ray.sets range → AreSettled (rays ++ ray ∷ []) (ranges ++ range ∷ [])
settled_push rays ranges ray range h none =
    let more : length (rays ++ ray ∷ []) ≡ length rays + 1 = length-append rays (ray ∷ []) in
    let more' : length (ranges ++ range ∷ []) ≡ length ranges + 1 = length-append ranges (range ∷ []) in
    record {
      many = omega (arith, more, more', h.many);
      none = λ n d lt.
          ⊎_elim
          (λ (earlier : n < length rays).
          subst (λ (r : KeptSets). HasNoneWanted r.sets (get_or (ranges ++ range ∷ []) n d))
          (sym (get_or_append_left rays (ray ∷ []) no_ray n earlier))
          (subst (λ (s : ℕ × ℕ). HasNoneWanted (kept_at rays n).sets s)
          (sym (get_or_append_left ranges (range ∷ []) d n (omega (arith, earlier, h.many)))) (h.none n d earlier)))
          (λ (le : length rays ≤ n).
          let last : length rays ≡ n = omega (arith, lt, le, more) in
          subst (λ (r : KeptSets). HasNoneWanted r.sets (get_or (ranges ++ range ∷ []) n d))
          (sym (get_or_push rays ray no_ray n last))
          (subst (λ (s : ℕ × ℕ). HasNoneWanted ray.sets s) (sym (get_or_push ranges range d n (h.many ∙ last))) none))
          (cases_lt n (length rays));
    }

-- the same of lists that are those with one more
pub settled_more : (rays rays' : List KeptSets) (ranges ranges' : List (ℕ × ℕ)) (ray : KeptSets) (range : ℕ × ℕ) → AreSettled rays ranges
    → HasNoneWanted ray.sets range → rays' ≡ rays ++ ray ∷ [] → ranges' ≡ ranges ++ range ∷ [] → AreSettled rays' ranges'
settled_more rays rays' ranges ranges' ray range h none er es =
    subst (λ (l : List KeptSets). AreSettled l ranges') (sym er)
    (subst (λ (l : List (ℕ × ℕ)). AreSettled (rays ++ ray ∷ []) l) (sym es) (settled_push rays ranges ray range h none))

-- a ray is written: it is the one that is read there
pub kept_set : (rays : List KeptSets) (n : ℕ) (ray : KeptSets) → n < length rays → kept_at (set rays n ray) n ≡ ray
kept_set rays n ray lt = get_or-set_same rays n ray no_ray lt

-- and where its range is settled still, so are all
pub settled_set : (rays : List KeptSets) (ranges : List (ℕ × ℕ)) (n : ℕ) (ray : KeptSets) → AreSettled rays ranges → n < length rays
    → ((range : ℕ × ℕ) → HasNoneWanted ray.sets (get_or ranges n range)) → AreSettled (set rays n ray) ranges
settled_set rays ranges n ray h low none = record {
  many = h.many ∙ sym (length-set rays n ray);
  none = λ m d lt.
      ⊎_elim
      (λ (e : m ≡ n).
      subst (λ (k : ℕ). HasNoneWanted (kept_at (set rays n ray) k).sets (get_or ranges k d)) (sym e)
      (subst (λ (r : KeptSets). HasNoneWanted r.sets (get_or ranges n d)) (sym (kept_set rays n ray low)) (none d)))
      (λ (other : m ≢ n).
      subst (λ (r : KeptSets). HasNoneWanted r.sets (get_or ranges m d)) (sym (get_or-set_other rays n m ray no_ray other))
      (h.none m d (omega (arith, lt, length-set rays n ray))))
      (cases_eq m n);
}

-- and where it is given a range that is settled
pub settled_both : (rays : List KeptSets) (ranges : List (ℕ × ℕ)) (n : ℕ) (ray : KeptSets) (range : ℕ × ℕ) → AreSettled rays ranges
    → n < length rays → HasNoneWanted ray.sets range → AreSettled (set rays n ray) (set ranges n range)
settled_both rays ranges n ray range h low none = record {
  many = length-set ranges n range ∙ h.many ∙ sym (length-set rays n ray);
  none = λ m d lt.
      ⊎_elim
      (λ (e : m ≡ n).
      subst (λ (k : ℕ). HasNoneWanted (kept_at (set rays n ray) k).sets (get_or (set ranges n range) k d)) (sym e)
      (subst (λ (r : KeptSets). HasNoneWanted r.sets (get_or (set ranges n range) n d)) (sym (kept_set rays n ray low))
      (subst (λ (s : ℕ × ℕ). HasNoneWanted ray.sets s) (sym (get_or-set_same ranges n range d (omega (arith, low, h.many)))) none)))
      (λ (other : m ≢ n).
      subst (λ (r : KeptSets). HasNoneWanted r.sets (get_or (set ranges n range) m d)) (sym (get_or-set_other rays n m ray no_ray other))
      (subst (λ (s : ℕ × ℕ). HasNoneWanted (kept_at rays m).sets s) (sym (get_or-set_other ranges n m range d other))
      (h.none m d (omega (arith, lt, length-set rays n ray)))))
      (cases_eq m n);
}
