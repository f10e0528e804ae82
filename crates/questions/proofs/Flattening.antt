-- The text of a flattened series, by what flattening answered and wrote.
use Rattle.std.proofs.Common.{◌≡◌, ℕ, suc, ◌≤◌, false, ltb, List, [], ◌∷◌, ◌++◌, length, drop, Ok, Result, refl, ap, ◌∙◌, arith}
use Rattle.std.proofs.lemmas.List.{append-nil, drop_all}
use Rattle.std.proofs.lemmas.Bool.{le-ltb}
use Rattle.series.specs.declared.cell.Cell.{Cell}
use Rattle.series.specs.declared.cell.Cell.TheVariants as cell
use Rattle.series.specs.declared.interval.Interval.{Interval}
use Rattle.series.specs.Flattened.{Stop, lead, ending, flattened}
use Rattle.answers.specs.Texts.{ok_text}
use Rattle.questions.specs.Questions.{readings_text, ending_text, flatten_text}

-- where flattening came to the end, every cell has a reading
length-lead : {T : Type 0} (n i m : ℕ) (cs : List (Cell T)) → Ok m ≡ ending n i cs → length (lead cs) ≡ length cs
length-lead n i m [] e = refl
length-lead n i m (cell.Reading x ∷ cs) e = ap suc (length-lead n (suc i) m cs e)
length-lead n i m (cell.Fault f ∷ cs) e = let z : ◌≡◌ {A = ℕ} 0 1 = cc in absurd (omega arith)

-- in a buffer of the list's length
exact : {T : Type 0} (cs : List (Cell T)) (out : List T) → length out ≡ length cs → flattened cs out ≡ (ending (length cs) 0 cs, lead cs ++ drop (length (lead cs)) out)
exact cs out e = let l : length cs ≤ length out = omega arith in let t : ltb (length out) (length cs) ≡ false = le-ltb _ _ l in rw t

pub flat_text : (cs : List (Cell Interval)) (out after : List Interval) (n : ℕ) → length out ≡ length cs →
    (Ok n, after) ≡ flattened cs out → ok_text n ++ readings_text after ≡ flatten_text cs
flat_text cs out after n e f =
    let h : ◌≡◌ {A = Result ℕ Stop × List Interval} (Ok n, after) (ending (length cs) 0 cs, lead cs ++ drop (length (lead cs)) out) = f ∙ exact cs out e in
    let told : Ok n ≡ ending (length cs) 0 cs = ap (λ p. p.0) h in
    let all : length (lead cs) ≡ length cs = length-lead (length cs) 0 n cs told in
    let wrote : after ≡ lead cs ++ drop (length (lead cs)) out = ap (λ p. p.1) h in
    let past : length out ≤ length (lead cs) = omega arith in
    ap (λ l. ok_text n ++ readings_text l) (wrote ∙ ap (λ l. lead cs ++ l) (drop_all (length (lead cs)) out past) ∙ append-nil (lead cs))
    ∙ ap (ending_text (lead cs)) told
