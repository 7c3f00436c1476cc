-- What a move marks and was not in a set leads from the version before its edit to the one after it.
use Rattle.std.proofs.Common.{◌≡◌, ℕ, ◌+◌, ◌<◌, true, false, Bool, not, ◌&&◌, ◌||◌, List, Some, slice_get, refl, sym, ap, ap₂, ◌∙◌, subst}
use Rattle.edit_plan.specs.declared.edit.Edit.TheVariants.{Apply}
use Rattle.dexel_rays.proofs.Asked.{new_is_all}
use Rattle.dexel_rays.proofs.Laws.{back_again}
use Rattle.job_model.specs.Tasks.{Job, JobMove}
use Rattle.strip_plan.specs.Plans.{HasNumber}
use Rattle.strip_marks.specs.declared.change.WordChange.{WordChange}
use Rattle.strip_marks.specs.Marks.{among, points_at, possible_of, possible_there, sure_of, sure_there}
use Rattle.strip_journal.specs.Entries.{IsToggled}
use Rattle.strip_journal.specs.Journals.{possible_at, stock_at, sure_at}
use Rattle.strip_journal.proofs.MovesLeft.{possible_more_at, sure_more}
use Rattle.strip_journal.proofs.SetsTurned.{Leads}

-- the changes are what is marked and was not in a set at a version; the set after it has both
pub record AreNew (of : ℕ → ℕ → ℕ → Bool) (pick : WordChange → ℕ) (rays : ℕ) (points : ℕ → ℕ) (changes : List WordChange)
    (mark : ℕ → ℕ → Bool) (version : ℕ) : Type 0 where
  pub new : (n l : ℕ) → n < rays → l < points n → among pick changes n l ≡ (mark n l && not (of version n l))
  pub all : (n l : ℕ) → n < rays → l < points n → of (version + 1) n l ≡ (of version n l || mark n l)

-- what is new leads forward, and back
turned_by_new : (before after mark new : Bool) → new ≡ (mark && not before) → after ≡ (before || mark) → IsToggled false before after new
turned_by_new before after mark new is all = record {
  back = sym (ap₂ (λ a n. a && not n) all is ∙ back_again mark before);
  forth = all ∙ sym (ap (λ n. before || n) is ∙ new_is_all before mark);
}

new_turns : (of : ℕ → ℕ → ℕ → Bool) (pick : WordChange → ℕ) (rays : ℕ) (points : ℕ → ℕ) (changes : List WordChange)
    (mark : ℕ → ℕ → Bool) (version n l : ℕ) → AreNew of pick rays points changes mark version → n < rays → l < points n
    → IsToggled false (of version n l) (of (version + 1) n l) (among pick changes n l)
new_turns of pick rays points changes mark version n l are ray point =
    turned_by_new (of version n l) (of (version + 1) n l) (mark n l) (among pick changes n l) (are.new n l ray point)
    (are.all n l ray point)

-- the changes by another name
pub new_turns_as : (of : ℕ → ℕ → ℕ → Bool) (pick : WordChange → ℕ) (rays : ℕ) (points : ℕ → ℕ) (its changes : List WordChange)
    (mark : ℕ → ℕ → Bool) (version n l : ℕ) → its ≡ changes → AreNew of pick rays points changes mark version → n < rays → l < points n
    → IsToggled false (of version n l) (of (version + 1) n l) (among pick its n l)
new_turns_as of pick rays points its changes mark version n l is are ray point =
    subst (λ (c : List WordChange). IsToggled false (of version n l) (of (version + 1) n l) (among pick c n l)) (sym is)
    (new_turns of pick rays points changes mark version n l are ray point)

pub new_leads : (of : ℕ → ℕ → ℕ → Bool) (pick : WordChange → ℕ) (rays : ℕ) (points : ℕ → ℕ) (changes : List WordChange)
    (mark : ℕ → ℕ → Bool) (version : ℕ) → AreNew of pick rays points changes mark version
    → Leads of pick rays points changes false version (version + 1)
new_leads of pick rays points changes mark version are = record {
  each = λ n l ray point. sym (new_turns of pick rays points changes mark version n l are ray point).forth;
}

-- where nothing is new the set stays
or_none : (b : Bool) → (b || false) ≡ b
or_none true = refl
or_none false = refl

pub none_new : (of : ℕ → ℕ → ℕ → Bool) (pick : WordChange → ℕ) (rays : ℕ) (points : ℕ → ℕ) (changes : List WordChange)
    (mark : ℕ → ℕ → Bool) (version n l : ℕ) → AreNew of pick rays points changes mark version → among pick changes n l ≡ false
    → n < rays → l < points n → of version n l ≡ of (version + 1) n l
none_new of pick rays points changes mark version n l are none ray point =
    sym
    ((new_turns of pick rays points changes mark version n l are ray point).forth
    ∙ ap (λ b. of version n l || b) none ∙ or_none (of version n l))

-- the point of ray n with the index l is stock of which a move is sure, and stock at which it is possible
abbrev pub sure_stock : Job → ℕ → JobMove → ℕ → ℕ → Bool
sure_stock job strip move n l = stock_at job strip n l && sure_there job.plan move strip n l

abbrev pub possible_stock : Job → ℕ → JobMove → ℕ → ℕ → Bool
possible_stock job strip move n l = stock_at job strip n l && possible_there job.plan move strip n l

and_apart : (a b c : Bool) → (a && (b && c)) ≡ ((a && b) && c)
and_apart true b c = refl
and_apart false b c = refl

-- the changes of a move that an edit applies are the stock points that it marks and that were not in the two sets
pub record AreMarked (job : Job) (strip version rays : ℕ) (move : JobMove) (changes : List WordChange) : Type 0 where
  pub sure : (n l : ℕ) → n < rays → l < points_at job.plan.grid strip n
      → among sure_of changes n l ≡ (stock_at job strip n l && (sure_there job.plan move strip n l && not (sure_at job strip version n l)))
  pub possible : (n l : ℕ) → n < rays → l < points_at job.plan.grid strip n
      → among possible_of changes n l ≡ (stock_at job strip n l && (possible_there job.plan move strip n l && not (possible_at job strip version n l)))

pub sure_new : (job : Job) (strip version rays number : ℕ) (move : JobMove) (changes : List WordChange)
    → slice_get job.plan.edits version ≡ Some (Apply number) → HasNumber job.plan number move
    → AreMarked job strip version rays move changes
    → AreNew (sure_at job strip) sure_of rays (points_at job.plan.grid strip) changes (sure_stock job strip move) version
sure_new job strip version rays number move changes applies named marked = record {
  new = λ n l ray point.
      marked.sure n l ray point
      ∙ and_apart (stock_at job strip n l) (sure_there job.plan move strip n l) (not (sure_at job strip version n l));
  all = λ n l ray point. sure_more job strip version n l number move applies named;
}

pub possible_new : (job : Job) (strip version rays number : ℕ) (move : JobMove) (changes : List WordChange)
    → slice_get job.plan.edits version ≡ Some (Apply number) → HasNumber job.plan number move
    → AreMarked job strip version rays move changes
    → AreNew (possible_at job strip) possible_of rays (points_at job.plan.grid strip) changes (possible_stock job strip move) version
possible_new job strip version rays number move changes applies named marked = record {
  new = λ n l ray point.
      marked.possible n l ray point
      ∙ and_apart (stock_at job strip n l) (possible_there job.plan move strip n l) (not (possible_at job strip version n l));
  all = λ n l ray point. possible_more_at job strip version n l number move applies named;
}
