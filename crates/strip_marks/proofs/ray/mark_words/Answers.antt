use Rattle.std.proofs.Common.{◌≡◌, ℕ, ◌+◌, ◌-◌, ◌*◌, ◌/◌, ◌<◌, ◌^◌, arith, sym, subst}
use Rattle.vf_spans.specs.Words.{words_below}
use Rattle.near_points.specs.Rays.{cylinder_ray_at}
use Rattle.dexel_rays.specs.Sets.{HaveBound}
use Rattle.job_counts.specs.Counts.{most_count}
use Rattle.wanted_marks.specs.Rays.{is_possible_at, is_sure_at}
use Rattle.strip_marks.specs.RayMarks.{Adds, AreWordsMarked}
use Rattle.strip_marks.proofs.AtWords.{asked_of, idle_unasked}
use Rattle.strip_marks.proofs.Counting.{within_more}
use Rattle.strip_marks.proofs.Growing.{adds_none, adds_words, room_left}
use Rattle.strip_marks.proofs.Idle.{idle_words}
use Rattle.strip_marks.proofs.NearRays.{near_points_on}
use Rattle.strip_marks.proofs.ray.mark_words.Goals as goal

pub mark_word-requires-clause-asked : goal.mark_word-requires-clause-asked
mark_word-requires-clause-asked c =
    let a = c.args in
    asked_of (cylinder_ray_at a.near.now a.n) a.marker.now a.ray.now.sets a.first.word a.window.0 a.window.1 a.first.points c.requires.ray c.requires.window c.requires.near
    c.requires.first.asked

pub mark_word-requires-clause-few : goal.mark_word-requires-clause-few
mark_word-requires-clause-few c = omega (arith, c.requires.first.inside)

pub mark_word-requires-clause-within : goal.mark_word-requires-clause-within
mark_word-requires-clause-within c = omega (arith, c.requires.first.inside, c.requires.window.within, c.requires.ray.bound.stock)

pub mark_word-requires-in-loop-window-clause-within : goal.mark_word-requires-in-loop-window-clause-within
mark_word-requires-in-loop-window-clause-within c =
    omega (arith, c.requires.window.within, c.requires.ray.bound.stock)

pub mark_word-requires-in-loop-window-clause-few : goal.mark_word-requires-in-loop-window-clause-few
mark_word-requires-in-loop-window-clause-few c = omega arith

pub candidates_in-points-requires-clause-on : goal.candidates_in-points-requires-clause-on
candidates_in-points-requires-clause-on c =
    near_points_on (cylinder_ray_at c.args.near.now c.args.n) c.args.marker.now c.args.window.1 c.requires.near c.requires.window.within

pub overflow_add-word : goal.overflow_add-word
overflow_add-word c = omega arith

pub mark_word-requires-clause-room : goal.mark_word-requires-clause-room
mark_word-requires-clause-room c = within_more (most_count - 2 ^ 33) (most_count - 64) c.args.marked.now.counts (omega arith) c.requires.room

pub loop-window-init : goal.loop-window-init
loop-window-init c =
    let a = c.args in
    let r = a.marker.now in
    let d = a.ray.now.sets in
    let lo = a.window.0 / 64 in
    let word = a.first.word in
    record {
      from = omega arith;
      to = omega (arith, c.requires.first.inside);
      adds = adds_words d (is_sure_at r) (is_possible_at r) a.rapid a.n lo word (word + 1) a.marked.now a.marked.now c.mark_word.new.marked
          c.requires.first.ahead.from (omega arith)
          (adds_none a.marked.now (λ added found. AreWordsMarked d (is_sure_at r) (is_possible_at r) a.rapid a.n lo word added found)
          (idle_words d (is_sure_at r) (is_possible_at r) a.rapid c.requires.ray.ordered a.n lo word
          (subst (λ b. HaveBound b d) (sym c.requires.ray.bound.stock) c.requires.ray.bound)
          (λ l ge lt within. idle_unasked (cylinder_ray_at a.near.now a.n) r d a.window.0 a.window.1 l c.requires.ray c.requires.window c.requires.near within
          (c.requires.first.ahead.none l lt))))
          c.in_ok-mark_word.ensures;
    }

pub mark_word-requires-in-loop-window-clause-asked : goal.mark_word-requires-in-loop-window-clause-asked
mark_word-requires-in-loop-window-clause-asked c =
    let a = c.args in
    asked_of (cylinder_ray_at a.near.now a.n) a.marker.now a.ray.now.sets c.loop-window.word a.window.0 a.window.1 c.candidates_in-points.result c.requires.ray c.requires.window
    c.requires.near c.candidates_in-points.ensures

pub mark_word-requires-in-loop-window-clause-room : goal.mark_word-requires-in-loop-window-clause-room
mark_word-requires-in-loop-window-clause-room c =
    let a = c.args in
    let r = a.marker.now in
    let few : 64 * c.loop-window.word < 2 ^ 32 = omega (arith) in
    room_left a.ray.now.sets (is_sure_at r) (is_possible_at r) a.rapid a.n (a.window.0 / 64) c.loop-window.word a.marked.now
    c.loop-window.marked few c.requires.room c.loop-window.invariant.adds

pub loop-window-preserved : goal.loop-window-preserved
loop-window-preserved c =
    let a = c.args in
    let r = a.marker.now in
    let word = c.loop-window.word in
    record {
      from = omega (arith, c.loop-window.invariant.from);
      to = omega (arith, c.loop-window-test.true);
      adds = adds_words a.ray.now.sets (is_sure_at r) (is_possible_at r) a.rapid a.n (a.window.0 / 64) word (word + 1) a.marked.now
          c.loop-window.marked c.mark_word-in-loop-window.new.marked (omega (arith, c.requires.first.ahead.from)) (omega arith)
          c.loop-window.invariant.adds c.in_ok-mark_word-2.ensures;
    }

pub returns : goal.returns
returns c =
    let a = c.args in
    let r = a.marker.now in
    let e : c.loop-window.word ≡ words_below a.window.1 = omega (arith, c.requires.first.inside) in
    subst (λ (k : ℕ). Adds a.marked.now c.loop-window.marked (λ added found.
    AreWordsMarked a.ray.now.sets (is_sure_at r) (is_possible_at r) a.rapid a.n (a.window.0 / 64) k added found)) e
    c.loop-window.invariant.adds
