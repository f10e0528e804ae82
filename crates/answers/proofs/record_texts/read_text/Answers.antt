use Rattle.std.proofs.Common.{◌≡◌, ℕ, List, ◌++◌, codes, decimal, string_bytes, refl, ap, ◌∙◌}
use Rattle.std.proofs.lemmas.List.{append_assoc}
use Rattle.answers.proofs.record_texts.read_text.Goals as goal

-- place and count, then words, then the bytes used
in_turn : (a b words used t u v : List ℕ) → t ≡ a ++ (codes " " ++ b) → u ≡ t ++ words → v ≡ u ++ used → v ≡ a ++ (codes " " ++ (b ++ (words ++ used)))
in_turn a b words used t u v p q r =
    r
    ∙ ap (λ (l : List ℕ). l ++ used) (q ∙ ap (λ (l : List ℕ). l ++ words) p)
    ∙ append_assoc (a ++ (codes " " ++ b)) words used
    ∙ append_assoc a (codes " " ++ b) (words ++ used)

pub returns : goal.returns
returns c =
    in_turn (decimal c.args.asks.now.place) (decimal c.args.asks.now.struck) _ _ (string_bytes c.in_ok-text.text) (string_bytes c.push_each.new.text) _
    c.in_ok-text.ensures.ok (c.in_ok-push_each.ensures decimal (λ _. refl)) c.in_ok-write.ensures.bytes
