use Rattle.space.specs.Sweeps.{axis_at, offset_at}
use Rattle.std.proofs.Common.{pos}
use Rattle.cutter_slabs.proofs.Heights.{own_is_asked, own_is_enough}
use Rattle.cutter_slabs.proofs.Plain.{cylinder_inside, from_tip, inside_cylinder, tip_is_point, to_tip}
use Rattle.cutter_slabs.proofs.Sound.{lower_upper}
use Rattle.cutter_slabs.proofs.Straight.{line_straight, straight_line}
use Rattle.cutter_slabs.proofs.Worked.{beside, near_tip, within}
use Rattle.cutter_slabs.proofs.Writings.{written_back, written_on}
use Rattle.cutter_slabs.proofs.laws.cutter_laws.Goals as goal

pub returns-clause-lower : goal.returns-clause-lower
returns-clause-lower c = λ size m p a b. lower_upper size b (offset_at m p (pos a) (pos b)) (axis_at m (pos a) (pos b))

pub returns-clause-times : goal.returns-clause-times
returns-clause-times c = λ size t m p a b k valid some. (written_on size t m p a b k valid some, written_back size t m p a b k valid some)

pub returns-clause-base : goal.returns-clause-base
returns-clause-base c = λ size t b p a tip. (to_tip size t b p a, from_tip size t b p a tip)

pub returns-clause-cylinder : goal.returns-clause-cylinder
returns-clause-cylinder c = λ size t b p a upright sharp. (inside_cylinder size t b p a upright, cylinder_inside size t b p a upright sharp)

pub returns-clause-tip : goal.returns-clause-tip
returns-clause-tip c = tip_is_point

pub returns-clause-own_height : goal.returns-clause-own_height
returns-clause-own_height c = λ r E p q u n w hu hn hw one top own. (own_is_asked r E p q u n w one top own, own_is_enough r E p q u n w hu hn hw one top own)

pub returns-clause-straight : goal.returns-clause-straight
returns-clause-straight c = λ t d u i s. (straight_line t d u i s, line_straight t d u i s)

pub returns-clause-ball : goal.returns-clause-ball
returns-clause-ball c = record { within = within; beside = beside; near_tip = near_tip }
