-- `states::sound` meets its contract: the head's test, and then the values'.
use mathlib.Core.Path.{sym, ◌∙◌}
use Rattle.records.proofs.Written.{part_rest}
use Rattle.states.specs.States.{state_of}
use Rattle.states.proofs.Soundness.{sound_values}
use Rattle.states.proofs.sound.Goals as goal

pub returns-then-is_sound : goal.returns-then-is_sound
unfolding state_of
returns-then-is_sound c =
    let s = state_of c.args.state.now in
    let h = rw c.read-head.ensures at (c.is_sound.ensures.0 c.if-is_sound.true) in
    c.all_at_most.ensures ∙ rw (part_rest, c.top_value.ensures, c.read-head.ensures) (sym (sound_values s h))
