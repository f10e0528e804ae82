use Rattle.session.proofs.HeldLines.{script_law}
use Rattle.session.proofs.scripts.scripts_stand.Goals as goal

pub returns : goal.returns
returns c = script_law
