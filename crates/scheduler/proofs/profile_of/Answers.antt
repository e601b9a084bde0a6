-- At 0 the profile is strict.
use Rattle.scheduler.proofs.profile_of.Goals as goal

pub returns-then-n-eq0 : goal.returns-then-n-eq0
returns-then-n-eq0 c = rw c.if-n-eq0.true
