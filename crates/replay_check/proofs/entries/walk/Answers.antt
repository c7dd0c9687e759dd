use Rattle.replay_check.proofs.entries.walk.Goals as goal

pub loop-place-init : goal.loop-place-init
loop-place-init c = c.requires.standing
