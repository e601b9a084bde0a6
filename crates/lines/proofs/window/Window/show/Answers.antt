use Rattle.lines.proofs.WindowLaws.{Showed-past}
use Rattle.lines.proofs.window.Window.show.Goals as goal

pub returns-then-text-self : goal.returns-then-text-self
returns-then-text-self c = Showed-past _ _ c.if-text-self.true
