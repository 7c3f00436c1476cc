-- There is room for the kept entry, and its hits have their number.
use Rattle.std.proofs.Common.{◌≡◌, ◌∙◌, List, [], ◌∷◌, ◌++◌, ap, arith, sym, subst}
use Rattle.strip_journal.specs.declared.entries.KeptEntry.{KeptEntry}
use Rattle.strip_journal.specs.Entries.{EntryList}
use Rattle.strip_journal.specs.Kept.{NameHits, whole_entries, whole_entry}
use Rattle.strip_journal.proofs.EditHistories.{pushed}
use Rattle.strip_journal.proofs.KeptHits.{named_pushed, whole_pushed}
use Rattle.strip_journal.proofs.entries.Entries.push.Goals as goal
use Rattle.strip_journal.proofs.entries.Entries.push.Goals.{After-push-kept}

-- what is kept of the entry
abbrev new_kept : After-push-kept → KeptEntry
new_kept c = record {
  edit = c.args.entry.now.edit;
  from = c.args.entry.now.from;
  to = c.args.entry.now.to;
  removed = c.args.entry.now.removed;
  possible = c.args.entry.now.possible;
  hits = c.keep_hits-hits.result;
  is_undo = c.args.entry.now.is_undo;
}

-- it comes after the others
put : (c : After-push-kept) → c.push-kept.new.self.items ≡ c.self.inside.kept.items ++ new_kept c ∷ []
put c =
    let room = ap (λ (e : EntryList). e.room) c.self.view_is in
    let some = c.requires.entry in
    c.push-kept.ensures.items ∙ pushed c.push-kept.result _ _ (c.push-kept.ensures.succeeds (omega (arith, room, some)))

pub invariant_of-self : goal.invariant_of-self
invariant_of-self c =
    let own = c.self.inside in
    let still = c.keep_hits-hits.ensures.still in
    subst (λ (l : List KeptEntry). NameHits c.keep_hits-hits.new.list.items l) (sym (put c))
    (named_pushed own.hits.items c.keep_hits-hits.new.list.items own.kept.items (new_kept c) still c.self.invariant
    c.keep_hits-hits.ensures.within)

pub returns : goal.returns
returns c =
    let own = c.self.inside in
    let named = c.keep_hits-hits.ensures.named in
    let entry = c.args.entry.now in
    let whole : whole_entry c.keep_hits-hits.new.list.items (new_kept c) ≡ entry = λ i. record {
      edit = entry.edit;
      from = entry.from;
      to = entry.to;
      is_undo = entry.is_undo;
      hits = named i;
      removed = entry.removed;
      possible = entry.possible;
    } in
    ap (λ (l : List KeptEntry). whole_entries c.keep_hits-hits.new.list.items l) (put c)
    ∙ whole_pushed own.hits.items c.keep_hits-hits.new.list.items own.kept.items (new_kept c) entry c.keep_hits-hits.ensures.still
    c.self.invariant whole
    ∙ ap (λ (e : EntryList). e.items ++ entry ∷ []) c.self.view_is
