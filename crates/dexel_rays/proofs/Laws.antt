-- What a settled point and one outside the bodies change, taking a delta back, and a move that marks nothing.
use Rattle.std.proofs.Common.{◌≡◌, ℕ, List, [], ◌∷◌, length, cond, ◌+◌, Bool, true, false, not, ◌&&◌, ◌||◌, IsTrue, refl, sym, ap, ap₂, ◌∙◌, subst}
use Rattle.std.specs.List.{range_with_len, count_by}
use Rattle.std.proofs.lemmas.List.Sums.{sum_by-cons}
use Rattle.vf_spans.specs.Members.{has}
use Rattle.vf_spans.proofs.Same.{same_sets}
use Rattle.job_counts.specs.declared.counts.Counts.{Counts}
use Rattle.job_counts.specs.Counts.{no_counts}
use Rattle.dexel_rays.specs.declared.delta.Delta.{Delta}
use Rattle.dexel_rays.specs.Findings.{Seen, met, none_met, findings, is_settled, is_outside}
use Rattle.dexel_rays.specs.Sets.{Sets, HaveBound, seen_at}
use Rattle.dexel_rays.specs.Steps.{IsDelta, IsUnited, IsWithout, StaysAt}

-- stock, part, fixture; sure and possible before; sure and possible now; rapid
abbrev pub point : Bool → Bool → Bool → Bool → Bool → Bool → Bool → Bool → Seen
point a b c S P s p rapid = record { stock = a; part = b; fixture = c; sure_before = S; possible_before = P; sure = s; possible = p; rapid = rapid }

pub no_more : (b : Bool) → (b && not true) ≡ false
no_more true = refl
no_more false = refl

pub and_false : (b : Bool) → (b && false) ≡ false
and_false true = refl
and_false false = refl

pub stock_gone : (a b : Bool) → (a && (b && not true)) ≡ false
stock_gone a b = ap (λ x. a && x) (no_more b) ∙ and_false a

-- a settled point meets no rule, whatever this move marks there
pub settled_meets_none : (a b c S P s p rapid : Bool) → IsTrue (is_settled (point a b c S P s p rapid)) → met (point a b c S P s p rapid) ≡ none_met
settled_meets_none a false false true true s p rapid t =
    let removed = stock_gone a s in
    let possible = stock_gone a p in
    let rapid_sure : (rapid && (a && (s && not true))) ≡ false = ap (λ x. rapid && x) removed ∙ and_false rapid in
    let rapid_possible : (rapid && (a && (p && not true))) ≡ false = ap (λ x. rapid && x) possible ∙ and_false rapid in
    cc
settled_meets_none a true c true true s p rapid t = cc
settled_meets_none a false true true true s p rapid t = cc
settled_meets_none a b c false P s p rapid t = cc
settled_meets_none a b c true false s p rapid t = cc

-- and the sets have it before and after
pub settled_sure : (a b c S P s p rapid : Bool) → IsTrue (is_settled (point a b c S P s p rapid)) → (S || s) ≡ S
settled_sure a b c true P s p rapid t = refl
settled_sure a b c false P s p rapid t = cc

pub settled_possible : (a b c S P s p rapid : Bool) → IsTrue (is_settled (point a b c S P s p rapid)) → (P || p) ≡ P
settled_possible a b c true true s p rapid t = refl
settled_possible a b c true false s p rapid t = cc
settled_possible a b c false P s p rapid t = cc

-- so a settled point stays as it is in the united sets, and meets no rule
pub settled_stays : (before after : Sets) (sure possible : List Bool) (rapid : Bool) → IsUnited before sure possible after
    → (i : ℕ) → IsTrue (is_settled (seen_at before sure possible rapid i)) → StaysAt before after i × (met (seen_at before sure possible rapid i) ≡ none_met)
settled_stays before after sure possible rapid u i t =
    let a = has before.stock i in let b = has before.part i in let c = has before.fixture i in
    let S = has before.sure i in let P = has before.possible i in let s = has sure i in let p = has possible i in
    (record { sure = u.all_sure i ∙ settled_sure a b c S P s p rapid t; possible = u.all_possible i ∙ settled_possible a b c S P s p rapid t }, settled_meets_none a b c S P s p rapid t)

-- a point outside the bodies meets no rule
pub outside_meets_none : (a b c S P s p rapid : Bool) → IsTrue (is_outside (point a b c S P s p rapid)) → met (point a b c S P s p rapid) ≡ none_met
outside_meets_none false false false S P s p rapid t =
    let rapid_sure = and_false rapid in
    cc
outside_meets_none true b c S P s p rapid t = cc
outside_meets_none false true c S P s p rapid t = cc
outside_meets_none false false true S P s p rapid t = cc

-- what was added and not there before is taken away: what was before is left
pub back_again : (m b : Bool) → (b || m) && not (m && not b) ≡ b
back_again true true = refl
back_again true false = refl
back_again false true = refl
back_again false false = refl

-- a set that was added to and is left without what was new is the set from before
left_again : (before marks all new after : List Bool) → length after ≡ length before → ((i : ℕ) → has all i ≡ (has before i || has marks i))
    → ((i : ℕ) → has new i ≡ (has marks i && not (has before i))) → ((i : ℕ) → has after i ≡ (has all i && not (has new i))) → after ≡ before
left_again before marks all new after size u n w =
    same_sets after before
    (record { bound = size; indices = λ i. w i ∙ ap₂ (λ x y. x && not y) (u i) (n i) ∙ back_again (has marks i) (has before i) })

same_sets_of : (s s' p p' f f' u u' q q' : List Bool) → s ≡ s' → p ≡ p' → f ≡ f' → u ≡ u' → q ≡ q'
    → let a : Sets = record { stock = s; part = p; fixture = f; sure = u; possible = q } in
    let b : Sets = record { stock = s'; part = p'; fixture = f'; sure = u'; possible = q' } in a ≡ b
same_sets_of s s' p p' f f' u u' q q' es ep ef eu eq = cc

same_delta : (u u' q q' : List Bool) (n n' : Counts) → u ≡ u' → q ≡ q' → n ≡ n'
    → let a : Delta = record { sure = u; possible = q; counts = n } in
    let b : Delta = record { sure = u'; possible = q'; counts = n' } in a ≡ b
same_delta u u' q q' n n' eu eq en = cc

-- after `add`, taking its delta back gives the same five sets
pub taken_back : (before all after : Sets) (sure possible : List Bool) (rapid : Bool) (delta : Delta)
    → IsWithout all delta after → IsUnited before sure possible all → IsDelta before sure possible rapid delta → after ≡ before
taken_back before all after sure possible rapid delta w u d =
    let n = ap (λ (z : List Bool). length z) u.stock in
    let stock = w.stock ∙ u.stock in
    let part = w.part ∙ u.part in
    let fixture = w.fixture ∙ u.fixture in
    let is_sure = left_again before.sure sure all.sure delta.sure after.sure (w.bound_after.sure ∙ n ∙ sym u.bound_before.sure) u.all_sure d.new_sure w.left_sure in
    let is_possible = left_again before.possible possible all.possible delta.possible after.possible (w.bound_after.possible ∙ n ∙ sym u.bound_before.possible) u.all_possible d.new_possible w.left_possible in
    same_sets_of after.stock before.stock after.part before.part after.fixture before.fixture after.sure before.sure after.possible before.possible stock part fixture is_sure is_possible

-- the sets of a ray that is given by its parts, with the united ones in place of its marks
pub united_inside : (i d : Sets) → i ≡ d → (all_sure all_possible sure possible : List Bool) → HaveBound (length i.stock) i
    → length all_sure ≡ length i.sure → length all_possible ≡ length i.possible
    → ((k : ℕ) → has all_sure k ≡ (has i.sure k || has sure k)) → ((k : ℕ) → has all_possible k ≡ (has i.possible k || has possible k))
    → let after : Sets = record { stock = i.stock; part = i.part; fixture = i.fixture; sure = all_sure; possible = all_possible } in IsUnited d sure possible after
united_inside i d is all_sure all_possible sure possible size ns np s p =
    let after : Sets = record { stock = i.stock; part = i.part; fixture = i.fixture; sure = all_sure; possible = all_possible } in
    let bound : HaveBound (length i.stock) after = record { stock = refl; part = size.part; fixture = size.fixture; sure = ns ∙ size.sure; possible = np ∙ size.possible } in
    subst (λ (z : Sets). IsUnited z sure possible after) is
    (record { bound_before = size; bound_after = bound; stock = refl; part = refl; fixture = refl; all_sure = s; all_possible = p })

-- the same without the indices of a delta
pub without_inside : (i d : Sets) → i ≡ d → (new_sure new_possible : List Bool) (delta : Delta) → HaveBound (length i.stock) i
    → length new_sure ≡ length i.sure → length new_possible ≡ length i.possible
    → ((k : ℕ) → has new_sure k ≡ (has i.sure k && not (has delta.sure k))) → ((k : ℕ) → has new_possible k ≡ (has i.possible k && not (has delta.possible k)))
    → let after : Sets = record { stock = i.stock; part = i.part; fixture = i.fixture; sure = new_sure; possible = new_possible } in IsWithout d delta after
without_inside i d is new_sure new_possible delta size ns np s p =
    let after : Sets = record { stock = i.stock; part = i.part; fixture = i.fixture; sure = new_sure; possible = new_possible } in
    let bound : HaveBound (length i.stock) after = record { stock = refl; part = size.part; fixture = size.fixture; sure = ns ∙ size.sure; possible = np ∙ size.possible } in
    subst (λ (z : Sets). IsWithout z delta after) is
    (record { bound_after = bound; stock = refl; part = refl; fixture = refl; left_sure = s; left_possible = p })

pub none_counted : {X : Type 0} → (p : X → Bool) → ((x : X) → p x ≡ false) → (xs : List X) → count_by p xs ≡ 0
none_counted p none [] = refl
none_counted p none (x ∷ xs) = sum_by-cons (λ y. cond (p y) 1 0) x xs ∙ ap₂ (λ m n. m + n) (ap (λ b. cond b 1 0) (none x)) (none_counted p none xs)

-- a move that marks nothing finds nothing
pub nothing_found : (d : Sets) (sure possible : List Bool) (rapid : Bool) (xs : List ℕ) → ((i : ℕ) → has sure i ≡ false) → ((i : ℕ) → has possible i ≡ false)
    → findings (seen_at d sure possible rapid) xs ≡ no_counts
nothing_found d sure possible rapid xs s p =
    let e0 = none_counted (λ i. has d.stock i && (has sure i && not (has d.sure i))) (λ i. ap (λ x. has d.stock i && (x && not (has d.sure i))) (s i) ∙ and_false (has d.stock i)) xs in
    let e1 = none_counted (λ i. has d.stock i && (has possible i && not (has d.possible i))) (λ i. ap (λ x. has d.stock i && (x && not (has d.possible i))) (p i) ∙ and_false (has d.stock i)) xs in
    let e2 = none_counted (λ i. has d.part i && has sure i) (λ i. ap (λ x. has d.part i && x) (s i) ∙ and_false (has d.part i)) xs in
    let e3 = none_counted (λ i. has d.part i && has possible i) (λ i. ap (λ x. has d.part i && x) (p i) ∙ and_false (has d.part i)) xs in
    let e4 = none_counted (λ i. has d.fixture i && has sure i) (λ i. ap (λ x. has d.fixture i && x) (s i) ∙ and_false (has d.fixture i)) xs in
    let e5 = none_counted (λ i. has d.fixture i && has possible i) (λ i. ap (λ x. has d.fixture i && x) (p i) ∙ and_false (has d.fixture i)) xs in
    let e6 = none_counted (λ i. rapid && (has d.stock i && (has sure i && not (has d.possible i))))
    (λ i. ap (λ x. rapid && (has d.stock i && (x && not (has d.possible i)))) (s i) ∙ ap (λ x. rapid && x) (and_false (has d.stock i)) ∙ and_false rapid) xs in
    let e7 = none_counted (λ i. rapid && (has d.stock i && (has possible i && not (has d.sure i))))
    (λ i. ap (λ x. rapid && (has d.stock i && (x && not (has d.sure i)))) (p i) ∙ ap (λ x. rapid && x) (and_false (has d.stock i)) ∙ and_false rapid) xs in
    cc

-- a set of what was marked, where nothing was, is empty
none_new : (new marks before empty : List Bool) → length new ≡ length empty → ((i : ℕ) → has new i ≡ (has marks i && not (has before i))) → ((i : ℕ) → has marks i ≡ false)
    → ((i : ℕ) → has empty i ≡ false) → new ≡ empty
none_new new marks before empty size n m e =
    same_sets new empty (record { bound = size; indices = λ i. n i ∙ ap (λ x. x && not (has before i)) (m i) ∙ sym (e i) })

-- the delta of a move that marks nothing has two empty sets and counts nothing
pub nothing_new : (bound : ℕ) (before : Sets) (sure possible : List Bool) (rapid : Bool) (delta same : Delta) → HaveBound bound before
    → ((i : ℕ) → has sure i ≡ false) → ((i : ℕ) → has possible i ≡ false) → IsDelta before sure possible rapid delta
    → length same.sure ≡ bound → length same.possible ≡ bound → ((i : ℕ) → has same.sure i ≡ false) → ((i : ℕ) → has same.possible i ≡ false) → same.counts ≡ no_counts
    → delta ≡ same
nothing_new bound before sure possible rapid delta same size s p d ns np es ep none =
    let is_sure = none_new delta.sure sure before.sure same.sure (d.sure_bound ∙ size.stock ∙ sym ns) d.new_sure s es in
    let is_possible = none_new delta.possible possible before.possible same.possible (d.possible_bound ∙ size.stock ∙ sym np) d.new_possible p ep in
    let counts = d.counts ∙ nothing_found before sure possible rapid (range_with_len 0 (length before.stock)) s p ∙ sym none in
    same_delta delta.sure same.sure delta.possible same.possible delta.counts same.counts is_sure is_possible counts
