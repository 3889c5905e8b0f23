-- `machine::Decisive::read` meets its contract: the end record's fields name the rows that decide.
use native.Mathlib.Omega.{arith}
use mathlib.Core.Path.{◌∙◌}
use Rattle.records.proofs.Written.{part_rest}
use Rattle.layout.proofs.Images.{passed_good, good_S, good_V1, good_V2, end_fits, end_held}
use Rattle.states.specs.Limits.{head_bytes}
use Rattle.machine.specs.Computing.{decisive_in}
use Rattle.machine.proofs.Trimming.{in_rest}
use Rattle.machine.proofs.Decisive.read.Goals as goal

pub overflow_sub-image : goal.overflow_sub-image
overflow_sub-image c = end_fits c.args.image.now c.requires.good

pub get-end-requires : goal.get-end-requires
get-end-requires c = omega (arith, end_fits c.args.image.now c.requires.good)

pub new_value-requires : goal.new_value-requires
new_value-requires c =
    let l = c.args.image.now in
    let h = c.requires in
    rw (c.get-end.ensures ∙ end_held l h.good) (in_rest c.args.state.now h.long (good_S l (passed_good l h.good)))

pub new_value-requires-2 : goal.new_value-requires-2
new_value-requires-2 c =
    let l = c.args.image.now in
    let h = c.requires in
    rw (c.get-end.ensures ∙ end_held l h.good) (in_rest c.args.state.now h.long (good_V1 l (passed_good l h.good)))

pub new_value-requires-3 : goal.new_value-requires-3
new_value-requires-3 c =
    let l = c.args.image.now in
    let h = c.requires in
    rw (c.get-end.ensures ∙ end_held l h.good) (in_rest c.args.state.now h.long (good_V2 l (passed_good l h.good)))

pub returns : goal.returns
unfolding decisive_in
returns c =
    rw (c.new_value.ensures, c.new_value-2.ensures, c.new_value-3.ensures, c.get-end.ensures ∙ end_held c.args.image.now c.requires.good, part_rest head_bytes c.args.state.now)
