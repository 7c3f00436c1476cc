-- Queries are asked one after another.
use Rattle.std.proofs.Common.{◌≡◌, ℕ, ◌+◌, ◌<◌, List, [], ◌∷◌, ◌++◌, map, length, take, get_or, refl, sym, ap, ◌∙◌, subst, Result, Ok, Err}
use Rattle.std.proofs.lemmas.List.{take_more}
use Rattle.std.specs.Global.{Vec}
use Rattle.vf_io.specs.declared.answers.NoMemory.{NoMemory}
use Rattle.edit_plan.specs.declared.query.Query.{Query}
use Rattle.job_counts.specs.declared.totals.Answer.{Answer}
use Rattle.turn_core.specs.World.{answer_of}
use Rattle.strip_turns.specs.declared.view.BoardStart.{BoardStart}
use Rattle.strip_turns.specs.declared.view.View.{View}
use Rattle.strip_turns.specs.Views.{with_log}
use Rattle.strip_turns.specs.Asks.{Asked, SomeRaised}
use Rattle.strip_turns.proofs.Asking.{no_log, log_both}
use Rattle.worker_gate.specs.Asking.{IsAsking, more, AskedAll, Logged, AsksAll}
use Rattle.worker_gate.specs.Asking as asking

pub logged_none : (v : View) → Logged v v
logged_none v = record { log = []; met = []; view = no_log v }

pub asked_none : (c : BoardStart) (v : View) → AskedAll c [] [] v v
asked_none c v = record { log = []; met = []; view = no_log v; asking = asking.nothing; answer = λ job are. refl }

map_push : (f : Query → Answer) (qs : List Query) (q : Query) → map f (qs ++ q ∷ []) ≡ map f qs ++ f q ∷ []
map_push f [] q = refl
map_push f (x ∷ qs) q = ap (λ l. f x ∷ l) (map_push f qs q)

pub asked_more : (c : BoardStart) (qs : List Query) (q : Query) (xs : List Answer) (a : Answer) (v u w : View)
    → AskedAll c qs xs v u → Asked c q a u w → AskedAll c (qs ++ q ∷ []) (xs ++ a ∷ []) v w
asked_more c qs q xs a v u w h one = record {
  log = h.log ++ one.log;
  met = h.met ++ one.met;
  view = one.view ∙ ap (with_log one.log one.met) h.view ∙ log_both v h.log one.log h.met one.met;
  asking = more qs q h.log one.log h.asking one.rise;
  answer = λ job are. ap (λ l. l ++ a ∷ []) (h.answer job are)
      ∙ ap (λ x. map (answer_of job) qs ++ x ∷ []) (one.answer job are)
      ∙ sym (map_push (answer_of job) qs q);
}

-- all were asked except one, for which some strips were raised
pub stopped_logged : (c : BoardStart) (qs : List Query) (xs : List Answer) (version first count : ℕ) (v u w : View) → AskedAll c qs xs v u
    → SomeRaised c version first count u w → Logged v w
stopped_logged c qs xs version first count v u w h some = record {
  log = h.log ++ some.log;
  met = h.met ++ some.met;
  view = some.view ∙ ap (with_log some.log some.met) h.view ∙ log_both v h.log some.log h.met some.met;
}

-- the queries up to the next one
pub one_more : (c : BoardStart) (qs : List Query) (i : ℕ) (d : Query) (answers all : List Answer) (a : Answer) (v w : View)
    → i < length qs → all ≡ answers ++ a ∷ [] → AskedAll c (take i qs ++ get_or qs i d ∷ []) (answers ++ a ∷ []) v w
    → AskedAll c (take (i + 1) qs) all v w
one_more c qs i d answers all a v w lt is h =
    subst (λ (l : List Answer). AskedAll c (take (i + 1) qs) l v w) (sym is)
    (subst (λ ps. AskedAll c ps (answers ++ a ∷ []) v w) (sym (take_more qs i d lt)) h)

asked_logged : (c : BoardStart) (qs : List Query) (xs : List Answer) (v w : View) → AskedAll c qs xs v w → Logged v w
asked_logged c qs xs v w h = record { log = h.log; met = h.met; view = h.view }

-- asking takes in no pass
pub asks_out : (c : BoardStart) (qs : List Query) (r : Result (Vec Answer) NoMemory) (v w : View) → AsksAll c qs r v w → w.out ≡ v.out
asks_out c qs (Ok a) v w h = ap (λ (z : View). z.out) h.view
asks_out c qs (Err e) v w h = ap (λ (z : View). z.out) h.view

pub asks_logged : (c : BoardStart) (qs : List Query) (r : Result (Vec Answer) NoMemory) (v w : View) → AsksAll c qs r v w → Logged v w
asks_logged c qs (Ok a) v w h = asked_logged c qs a.items v w h
asks_logged c qs (Err e) v w h = h
