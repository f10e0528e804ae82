-- The answers of a draft's corrections, as their text grows.
-- added: an answer more behind a text, with the separator where the text has one already.
-- grown: the text when these answers too are added.
use Rattle.std.proofs.Common.{◌≡◌, ℕ, ◌+◌, ◌<◌, ◌≤◌, cond, eqb, List, [], ◌∷◌, ◌++◌, map, length, get_or, drop, Ok, Err, vec_items, codes, Result, sym, refl, ap, ◌∙◌}
use lib.Dec.{eqb-suc-zero}
use Rattle.std.specs.List.{flat_map}
use Rattle.std.proofs.lemmas.List.{append-nil, append_assoc, at_drop_more, at_drop_all}
use Rattle.journal.specs.Machine.{State, correction, outcome, check, corrected, corrected_all}
use Rattle.commands.specs.declared.command.OwnedCorrection.{OwnedCorrection}
use Rattle.commands.specs.Commands.{owned}
use Rattle.answers.specs.Texts.{ok_text, answer_text, separated}
use Rattle.answers.specs.Changes.{draft_answers}

abbrev added : List ℕ → Result ℕ ℕ → List ℕ
added bs x = bs ++ (cond (eqb (length bs) 0) (codes "") (codes ", ") ++ answer_text ok_text x)

abbrev grown : List ℕ → List (Result ℕ ℕ) → List ℕ
grown bs [] = bs
grown bs (x ∷ xs) = grown (added bs x) xs

-- a text with a first byte goes on with a separator before each answer
grown_on : (b : ℕ) (bs : List ℕ) (xs : List (Result ℕ ℕ)) → grown (b ∷ bs) xs ≡ (b ∷ bs) ++ flat_map (λ x. codes ", " ++ answer_text ok_text x) xs
grown_on b bs [] = sym (append-nil (b ∷ bs))
grown_on b bs (x ∷ xs) =
    let t = codes ", " ++ answer_text ok_text x in
    ap (λ e. grown ((b ∷ bs) ++ (cond e (codes "") (codes ", ") ++ answer_text ok_text x)) xs) (eqb-suc-zero (length bs))
    ∙ grown_on b (bs ++ t) xs
    ∙ append_assoc (b ∷ bs) t (flat_map (λ y. codes ", " ++ answer_text ok_text y) xs)

-- all answers, from no text on
grown_all : (xs : List (Result ℕ ℕ)) → grown [] xs ≡ separated (codes ", ") (answer_text ok_text) xs
grown_all [] = refl
grown_all (Ok n ∷ xs) = grown_on _ _ xs
grown_all (Err n ∷ xs) = grown_on _ _ xs

-- what is left of the corrections, from a state and a text on
abbrev pub left : State ℕ → List ℕ → List OwnedCorrection → List ℕ
left st bs cs = grown bs (draft_answers st (map owned cs))

-- one correction more, x of these words, as the draft answers it
module _ (st next : State ℕ) (cs : List OwnedCorrection) (i : ℕ) (x : OwnedCorrection) (ws : List ℕ) (r : Result ℕ ℕ)
    (h : i < length cs) (is : x ≡ get_or cs i x) (same : ws ≡ vec_items x.words)
    (out : (r, next) ≡ outcome st (correction x.place x.struck ws)) where
  asked : outcome st (correction x.place x.struck ws) ≡ outcome st (owned (get_or cs i x))
  asked = ap (λ (l : List ℕ). outcome st (correction x.place x.struck l)) same ∙ ap (λ (c : OwnedCorrection). outcome st (owned c)) is

  next-is : next ≡ corrected st (owned (get_or cs i x))
  next-is = ap (λ o. o.1) (out ∙ asked)

  told_is : r ≡ check st (owned (get_or cs i x))
  told_is = ap (λ o. o.0) (out ∙ asked)

  pub left_more : (bs more : List ℕ) → more ≡ added bs r → left next more (drop (i + 1) cs) ≡ left st bs (drop i cs)
  left_more bs more e =
      (λ j. left (next-is j) ((e ∙ ap (added bs) told_is) j) (drop (i + 1) cs)) ∙ sym (at_drop_more (λ (l : List OwnedCorrection). left st bs l) cs i x h)

  pub turns_more : corrected_all next (map owned (drop (i + 1) cs)) ≡ corrected_all st (map owned (drop i cs))
  turns_more =
      ap (λ (s : State ℕ). corrected_all s (map owned (drop (i + 1) cs))) next-is
      ∙ sym (at_drop_more (λ (l : List OwnedCorrection). corrected_all st (map owned l)) cs i x h)

-- when none is left
pub left_all : (st first : State ℕ) (bs : List ℕ) (cs : List OwnedCorrection) (i : ℕ) → length cs ≤ i → left st bs (drop i cs) ≡ left first [] cs
    → bs ≡ separated (codes ", ") (answer_text ok_text) (draft_answers first (map owned cs))
left_all st first bs cs i h e =
    sym (at_drop_all (λ (l : List OwnedCorrection). left st bs l) cs i h) ∙ e ∙ grown_all (draft_answers first (map owned cs))

pub turns_all : (st first : State ℕ) (cs : List OwnedCorrection) (i : ℕ) → length cs ≤ i
    → corrected_all st (map owned (drop i cs)) ≡ corrected_all first (map owned cs) → st ≡ corrected_all first (map owned cs)
turns_all st first cs i h e = sym (at_drop_all (λ (l : List OwnedCorrection). corrected_all st (map owned l)) cs i h) ∙ e
