use Rattle.std.proofs.Common.{◌∙◌, ℕ, sym, subst}
use Rattle.job_counts.specs.declared.counts.Counts.{Counts}
use Rattle.strip_journal.specs.Entries.{HasNo}
use Rattle.strip_journal.specs.Found.{IsFoundBy}
use Rattle.strip_journal.proofs.FoundIs.{ahead_within, found_is, found_none}
use Rattle.strip_journal.proofs.journal.Journal.found.Goals as goal

pub counts_at-requires-clause-removed : goal.counts_at-requires-clause-removed
counts_at-requires-clause-removed c =
    let found = c.in-Some.ensures in
    (ahead_within c.args.self.now c.args.k c.in-Some.place c.requires.journal c.requires.stands found.0 (found.1 ∙ c.get.ensures)).removed

pub counts_at-requires-clause-possible : goal.counts_at-requires-clause-possible
counts_at-requires-clause-possible c =
    let found = c.in-Some.ensures in
    (ahead_within c.args.self.now c.args.k c.in-Some.place c.requires.journal c.requires.stands found.0 (found.1 ∙ c.get.ensures)).possible

pub returns-in-None : goal.returns-in-None
returns-in-None c =
    let none = subst (λ (number : ℕ). HasNo c.args.self.now.entries.items number) c.get.ensures c.in-None.ensures in
    subst (λ (counts : Counts). IsFoundBy c.args.self.now c.args.k counts) (sym c.none.ensures)
    (found_none c.args.self.now c.args.k c.requires.journal c.requires.stands none)

pub returns-in-Some : goal.returns-in-Some
returns-in-Some c =
    let found = c.in-Some.ensures in
    subst (λ (counts : Counts). IsFoundBy c.args.self.now c.args.k counts) (sym c.counts_at.ensures)
    (found_is c.args.self.now c.args.k c.in-Some.place c.requires.journal c.requires.stands found.0 (found.1 ∙ c.get.ensures))
