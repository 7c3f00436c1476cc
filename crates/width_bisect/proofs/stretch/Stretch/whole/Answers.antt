use Rattle.std.proofs.Common.{◌≡◌, ◌*◌, rules, length, subst, sym}
use Rattle.space.specs.Vectors.{at}
use Rattle.bern_form.specs.Sizes.{IsBounded2, axis_limit}
use Rattle.width_bisect.specs.Sizes.{height_limit}
use Rattle.width_bisect.proofs.Fitting.{axis_form_fits, height_form_fits}
use Rattle.width_bisect.proofs.Narrowed.{cast_fits, form_narrowed}
use Rattle.width_bisect.proofs.stretch.Stretch.whole.Goals as goal

pub overflow_cast-result : goal.overflow_cast-result
overflow_cast-result c = let l = c.args.forms.now.u.c in cast_fits (at l 0) (height_form_fits l c.requires.u).first

pub overflow_cast-result-2 : goal.overflow_cast-result-2
overflow_cast-result-2 c = let l = c.args.forms.now.u.c in cast_fits (at l 1) (height_form_fits l c.requires.u).middle

pub overflow_cast-result-3 : goal.overflow_cast-result-3
overflow_cast-result-3 c = let l = c.args.forms.now.u.c in cast_fits (at l 2) (height_form_fits l c.requires.u).last

pub overflow_cast-result-4 : goal.overflow_cast-result-4
overflow_cast-result-4 c = let l = c.args.forms.now.n.c in cast_fits (at l 0) (axis_form_fits l c.requires.n).first

pub overflow_cast-result-5 : goal.overflow_cast-result-5
overflow_cast-result-5 c = let l = c.args.forms.now.n.c in cast_fits (at l 1) (axis_form_fits l c.requires.n).middle

pub overflow_cast-result-6 : goal.overflow_cast-result-6
overflow_cast-result-6 c = let l = c.args.forms.now.n.c in cast_fits (at l 2) (axis_form_fits l c.requires.n).last

pub invariant_of-result : goal.invariant_of-result
invariant_of-result c =
    let u = c.args.forms.now.u.c in let n = c.args.forms.now.n.c in
    let u_long : length u ≡ 3 = search rules in let n_long : length n ≡ 3 = search rules in
    record {
      u_small = subst (IsBounded2 height_limit) (sym (form_narrowed u u_long (height_form_fits u c.requires.u))) c.requires.u;
      n_small = subst (IsBounded2 (3 * (axis_limit * axis_limit))) (sym (form_narrowed n n_long (axis_form_fits n c.requires.n))) c.requires.n;
      width_small = c.requires.width;
    }

pub returns-clause-u : goal.returns-clause-u
returns-clause-u c =
    let l = c.args.forms.now.u.c in let long : length l ≡ 3 = search rules in form_narrowed l long (height_form_fits l c.requires.u)

pub returns-clause-n : goal.returns-clause-n
returns-clause-n c =
    let l = c.args.forms.now.n.c in let long : length l ≡ 3 = search rules in form_narrowed l long (axis_form_fits l c.requires.n)
