-- A session's line against the script's: the same, or both longer than a line may be; so what is answered is the same.
use Rattle.std.proofs.Common.{◌≡◌, ℕ, ◌<◌, Bool, true, false, cond, eqb, ltb, ◌⊎◌, List, [], ◌∷◌, ◌++◌, length, None, Err, Option, sym, refl, ap, ◌∙◌, inl, inr, append-nil, arith, length-append}
use Rattle.std.proofs.lemmas.Bool.Decides.{nat_tests}
use Rattle.std.specs.Option.{option_to_list}
use Rattle.commands.specs.declared.wrong.Wrong.TheVariants.{LineTooLong}
use Rattle.commands.specs.Parsing.{parsed}
use Rattle.session.specs.Consoles.{Desk}
use Rattle.session.specs.Sessions.{Session, answered, reply, opened, next, grown, ended}
use Rattle.session.specs.Scripts.{lines_from, answers, fed, ScriptLaw}

abbrev Held : List ℕ → List ℕ → Type 0
Held held line = (held ≡ line) ⊎ ((65536 < length held) × (65536 < length line))

ltb-long : (n : ℕ) → 65536 < n → ltb 65536 n ≡ true
ltb-long n h = grind (arith, nat_tests)

parsed-long : (line : List ℕ) → 65536 < length line → parsed line ≡ Err LineTooLong
parsed-long line h = rw (ltb-long (length line) h)

held_parsed : (held line : List ℕ) → Held held line → parsed held ≡ parsed line
held_parsed held line (inl e) = ap parsed e
held_parsed held line (inr h) = parsed-long held h.0 ∙ sym (parsed-long line h.1)

-- a line with a byte more, by whether it is too long already
grown_held : (t : Bool) (line : List ℕ) (b : ℕ) → ltb 65536 (length line) ≡ t → Held (cond t line (line ++ b ∷ [])) (line ++ b ∷ [])
grown_held true line b e =
    let h : 65536 < length line = grind (arith, nat_tests) in inr (h, omega (arith, length-append line (b ∷ [])))
grown_held false line b e = inl refl

held_grown : (held line : List ℕ) (b : ℕ) → Held held line → Held (grown held b) (line ++ b ∷ [])
held_grown held line b (inl e) = rw e (grown_held (ltb 65536 (length line)) line b refl)
held_grown held line b (inr h) =
    rw (ltb-long (length held) h.0) (inr (h.0, omega (arith, length-append line (b ∷ []), h.1)))

held_none : (held line : List ℕ) → Held held line → eqb (length held) 0 ≡ eqb (length line) 0
held_none held line (inl e) = ap (λ l. eqb (length l) 0) e
held_none held line (inr h) = let a = h.0 in let b = h.1 in grind (arith, nat_tests)

-- the answer to a line, whichever of the two is read
held_answered : (d : Desk) (n : ℕ) (held line : List ℕ) → Held held line → answered d n held ≡ answered d n line
held_answered d n held line h = ap (reply d n) (held_parsed held line h)

-- at the script's end
last_line : (t : Bool) (s : Session) (line : List ℕ) → answered s.desk (next s.number) s.line ≡ answered s.desk (next s.number) line →
    option_to_list (cond {A = Option (List ℕ) × Session} t (None, s) (ended s)).0 ≡ answers s.desk s.number (cond t [] (line ∷ []))
last_line true s line e = refl
last_line false s line e = ap (λ p. option_to_list p.0) e ∙ sym (append-nil _)

-- at a byte, by whether it ends the line
one_byte : (t : Bool) (s after : Session) (line : List ℕ) (more : List (List ℕ)) (bs : List ℕ) →
    answered s.desk (next s.number) s.line ≡ answered s.desk (next s.number) line →
    fed (ended s).1 bs ≡ answers (ended s).1.desk (next s.number) (lines_from [] bs) →
    fed after bs ≡ answers s.desk s.number more →
    option_to_list (cond {A = Option (List ℕ) × Session} t (ended s) (None, after)).0 ++ fed (cond {A = Option (List ℕ) × Session} t (ended s) (None, after)).1 bs
    ≡ answers s.desk s.number (cond t (line ∷ lines_from [] bs) more)
one_byte true s after line more bs e ends goes =
    ap (λ rest. option_to_list (ended s).0 ++ rest) ends
    ∙ ap (λ p. option_to_list p.0 ++ answers p.1 (next s.number) (lines_from [] bs)) e
one_byte false s after line more bs e ends goes = goes

fed-answers : (bs : List ℕ) (s : Session) (line : List ℕ) → Held s.line line → fed s bs ≡ answers s.desk s.number (lines_from line bs)
fed-answers [] s line h =
    ap (λ t. option_to_list (cond {A = Option (List ℕ) × Session} t (None, s) (ended s)).0) (held_none s.line line h)
    ∙ last_line (eqb (length line) 0) s line (held_answered s.desk (next s.number) s.line line h)
fed-answers (b ∷ bs) s line h =
    one_byte (eqb b 10) s (record { desk = s.desk; number = s.number; line = grown s.line b }) line (lines_from (line ++ b ∷ []) bs) bs
    (held_answered s.desk (next s.number) s.line line h)
    (fed-answers bs (ended s).1 [] (inl refl))
    (fed-answers bs (record { desk = s.desk; number = s.number; line = grown s.line b }) (line ++ b ∷ []) (held_grown s.line line b h))

pub script_law : ScriptLaw
script_law bs = fed-answers bs opened [] (inl refl)
