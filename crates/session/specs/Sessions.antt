-- What a session does with the bytes of a script.
-- answered: the answer to a line, where it has one, and the desk after it.
-- session: the desk, how many lines have ended, and the bytes of the line that has not: all of them, or the first 65,537.
-- taken: a byte more; ended: the line's end; closed: the script's end.
-- Assumes nothing.
use Rattle.std.specs.Prelude.{ℕ, ◌+◌, min, cond, List, [], ◌∷◌, ◌++◌, length, Some, None, Ok, Err, vec_items, codes, decimal, Option, Result, ◌==◌, nat_lt}
use Rattle.commands.specs.declared.wrong.Wrong.{Wrong}
use Rattle.commands.specs.Commands.{Command}
use Rattle.commands.specs.Parsing.{parsed}
use Rattle.session.specs.declared.session.Session.{Session as Held}
use Rattle.session.specs.Consoles.{Desk, desk, executed, empty}

-- the answer to what line number n was read as: a line without fields answers nothing, and one that is no command its number
abbrev pub reply : Desk → ℕ → Result (Option Command) Wrong → Option (List ℕ) × Desk
reply d n (Ok None) = (None, d)
reply d n (Ok (Some c)) = (Some (executed d c).0, (executed d c).1)
reply d n (Err w) = (Some (codes "what? " ++ decimal n), d)

abbrev pub answered : Desk → ℕ → List ℕ → Option (List ℕ) × Desk
answered d n line = reply d n (parsed line)

pub record Session : Type 0 where
  pub desk : Desk
  pub number : ℕ
  pub line : List ℕ

abbrev pub session : Held → Session
session s = record { desk = desk s.console; number = s.number; line = vec_items s.line }

abbrev pub opened : Session
opened = record { desk = empty; number = 0; line = [] }

-- the number of the next line; numbers stop at 2 ^ 64 - 1
abbrev pub next : ℕ → ℕ
next n = min (n + 1) 18446744073709551615

abbrev pub after_line : ℕ → Option (List ℕ) × Desk → Option (List ℕ) × Session
after_line n p = (p.0, record { desk = p.1; number = n; line = [] })

abbrev pub ended : Session → Option (List ℕ) × Session
ended s = after_line (next s.number) (answered s.desk (next s.number) s.line)

-- a line that is longer than 65,536 bytes grows no more
abbrev pub grown : List ℕ → ℕ → List ℕ
grown line b = cond (nat_lt 65536 (length line)) line (line ++ b ∷ [])

-- a line feed (0a in hex) ends the line
abbrev pub taken : Session → ℕ → Option (List ℕ) × Session
taken s b = cond (b == 10) (ended s) (None, record { desk = s.desk; number = s.number; line = grown s.line b })

-- a last line without a line feed counts, unless it has no bytes
abbrev pub closed : Session → Option (List ℕ) × Session
closed s = cond (length s.line == 0) (None, s) (ended s)
