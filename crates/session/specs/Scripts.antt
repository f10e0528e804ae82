-- A whole script: what is answered to its lines in turn, and that a session that takes its bytes one by one answers just that.
-- lines: each is ended by a line feed; a last one without counts, unless it has no bytes.
-- answers: what lines in turn answer, those that answer nothing passed over.
-- script: the answers to a script's lines, from a new console on.
-- fed: what a session answers that takes bytes in turn and is then closed.
-- Assumes nothing.
use Rattle.std.specs.Prelude.{◌≡◌, ℕ, cond, List, [], ◌∷◌, ◌++◌, length, ◌==◌}
use Rattle.std.specs.Option.{option_to_list}
use Rattle.session.specs.Consoles.{Desk, empty}
use Rattle.session.specs.Sessions.{Session, answered, opened, next, taken, closed}

-- with these bytes of the first line before
abbrev pub lines_from : List ℕ → List ℕ → List (List ℕ)
lines_from line [] = cond (length line == 0) [] (line ∷ [])
lines_from line (b ∷ bs) = cond (b == 10) (line ∷ lines_from [] bs) (lines_from (line ++ b ∷ []) bs)

abbrev pub lines : List ℕ → List (List ℕ)
lines bs = lines_from [] bs

-- after n lines
abbrev pub answers : Desk → ℕ → List (List ℕ) → List (List ℕ)
answers d n [] = []
answers d n (l ∷ ls) = option_to_list (answered d (next n) l).0 ++ answers (answered d (next n) l).1 (next n) ls

abbrev pub script : List ℕ → List (List ℕ)
script bs = answers empty 0 (lines bs)

abbrev pub fed : Session → List ℕ → List (List ℕ)
fed s [] = option_to_list (closed s).0
fed s (b ∷ bs) = option_to_list (taken s b).0 ++ fed (taken s b).1 bs

abbrev pub ScriptLaw : Type 0
ScriptLaw = (bs : List ℕ) → fed opened bs ≡ script bs
