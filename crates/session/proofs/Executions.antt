-- From what a call on a part of the console answers to what the console does.
use Rattle.std.proofs.Common.{◌≡◌, ℕ, List, IfOk, Ok, Err, string_bytes, Result, String, ap}
use Rattle.std.specs.declared.alloc.AllocError.{AllocError}
use Rattle.std.specs.declared.alloc.Global.{Global}
use Rattle.journal.specs.Machine.{State}
use Rattle.questions.specs.Series.{cells_of}
use Rattle.questions.specs.Questions.{pile_text}
use Rattle.session.specs.Consoles.{Desk, at, executed}
use Rattle.commands.specs.Commands.{pile}

pub made-pile : (r : Result (String Global) AllocError) (d : Desk) (j k p : ℕ) (lower upper : State ℕ) →
    lower ≡ at d j → upper ≡ at d k → IfOk r (λ text. string_bytes text ≡ pile_text (cells_of d.series) lower upper p) →
    IfOk r (λ text. ◌≡◌ {A = List ℕ × Desk} (string_bytes text, d) (executed d (pile j k p)))
made-pile (Ok text) d j k p lower upper a b h =
    let e : string_bytes text ≡ pile_text (cells_of d.series) (at d j) (at d k) p = cc in ap (λ t. let q : List ℕ × Desk = (t, d) in q) e
made-pile (Err e) d j k p lower upper a b h = tt
