-- Where pieces lie: what the invariant says of them said of their origins, which a correction keeps.
use Rattle.std.proofs.Common.{◌≡◌, ℕ, zero, suc, ◌+◌, ◌-◌, ◌<◌, ◌≤◌, true, List, [], ◌∷◌, ◌++◌, length, get_or, take, drop, sym, refl, ap, ◌∙◌, subst, arith, length-append, length-drop, length-take}
use Rattle.std.proofs.lemmas.List.{append-nil}
use Rattle.std.proofs.lemmas.Bool.{leb-true, le-leb, and_parts, and_from}
use Rattle.series.specs.Lists.{spliced}
use Rattle.journal.specs.declared.piece.Piece.{Piece}
use Rattle.journal.specs.declared.piece.Source.{Source}
use Rattle.journal.specs.declared.piece.Source.TheVariants.{Kept, Entered}
use Rattle.journal.specs.Machine.{Origin, base, entered}
use Rattle.journal.specs.Pieces.{piece, stretch, spread, total, of_source, rise, within, none_empty, none_joins, length-stretch, length-spread}
use Rattle.journal.proofs.Joins.{Joined, joined_fact}

abbrev Os : Type 0
Os = List (Origin (Unit {0}))

-- a kept piece lies inside the length started for, at `from` or past it; an entered one inside the words in use
abbrev pub Lies : Source → ℕ → ℕ → ℕ → ℕ → ℕ → Type 0
Lies Kept from first count started used = (from ≤ first) × (first + count ≤ started)
Lies Entered from first count started used = first + count ≤ used

-- where the kept pieces after a piece may begin
abbrev pub past : Source → ℕ → ℕ → ℕ
past Kept from end = end
past Entered from end = from

-- the tests on pieces, one piece after another
abbrev pub Placed : ℕ → ℕ → ℕ → List Piece → Type 0
Placed f b u ps = (rise f b (of_source Kept ps) ≡ true) × (within u (of_source Entered ps) ≡ true)

pub placed_first : (s : Source) (a n f b u : ℕ) (ps : List Piece) → Placed f b u (piece s a n ∷ ps) → Lies s f a n b u × Placed (past s f (a + n)) b u ps
placed_first Kept a n f b u ps h =
    let x = and_parts _ _ h.0 in
    let y = and_parts _ _ x.1 in
    ((leb-true f a x.0, leb-true (a + n) b y.0), (y.1, h.1))
placed_first Entered a n f b u ps h = let x = and_parts _ _ h.1 in (leb-true (a + n) u x.0, (h.0, x.1))

placed_more : (s : Source) (a n f b u : ℕ) (ps : List Piece) → Lies s f a n b u → Placed (past s f (a + n)) b u ps → Placed f b u (piece s a n ∷ ps)
placed_more Kept a n f b u ps l h = (and_from _ _ (le-leb f a l.0) (and_from _ _ (le-leb (a + n) b l.1) h.0), h.1)
placed_more Entered a n f b u ps l h = (h.0, and_from _ _ (le-leb (a + n) u l) h.1)

-- where the piece at a place lies
pub lies_at : (f b u : ℕ) (ps : List Piece) (k : ℕ) (d : Piece) → k < length ps → Placed f b u ps
    → (g : ℕ) × Lies (get_or ps k d).source g (get_or ps k d).first (get_or ps k d).count b u
lies_at f b u [] k d lt h = absurd (omega arith)
lies_at f b u (p ∷ ps) zero d lt h = (f, (placed_first p.source p.first p.count f b u ps h).0)
lies_at f b u (p ∷ ps) (suc k) d lt h =
    lies_at (past p.source f (p.first + p.count)) b u ps k d (omega arith) (placed_first p.source p.first p.count f b u ps h).1

lies_within : (s : Source) (f a n b u m : ℕ) → b ≤ m → u ≤ m → Lies s f a n b u → a + n ≤ m
lies_within Kept f a n b u m bm um h = omega (arith, h.1)
lies_within Entered f a n b u m bm um h = omega arith

pub placed-within : (f b u m : ℕ) (ps : List Piece) → b ≤ m → u ≤ m → Placed f b u ps → within m ps ≡ true
placed-within f b u m [] bm um h = refl
placed-within f b u m (p ∷ ps) bm um h =
    let x = placed_first p.source p.first p.count f b u ps h in
    and_from _ _ (le-leb (p.first + p.count) m (lies_within p.source f p.first p.count b u m bm um x.0))
    (placed-within (past p.source f (p.first + p.count)) b u m ps bm um x.1)

-- the same of origins: base places rise inside the length started for, words lie inside those in use
abbrev At : Origin (Unit {0}) → ℕ → ℕ → ℕ → Type 0
At (base n) f b u = (f ≤ n) × (n < b)
At (entered k w) f b u = k < u

abbrev next : Origin (Unit {0}) → ℕ → ℕ
next (base n) f = suc n
next (entered k w) f = f

abbrev pub Well : ℕ → ℕ → ℕ → Os → Type 0
Well f b u [] = Unit {0}
Well f b u (o ∷ os) = At o f b u × Well (next o f) b u os

well_grow : (f g b u v : ℕ) (os : Os) → g ≤ f → u ≤ v → Well f b u os → Well g b v os
well_grow f g b u v [] gf uv w = tt
well_grow f g b u v (base n ∷ os) gf uv w = ((omega (arith, w.0.0), w.0.1), well_grow (suc n) (suc n) b u v os (omega arith) uv w.1)
well_grow f g b u v (entered k t ∷ os) gf uv w = (omega (arith, w.0), well_grow f g b u v os gf uv w.1)

well_drop : (k f b u : ℕ) (os : Os) → Well f b u os → Well f b u (drop k os)
well_drop zero f b u os w = w
well_drop (suc k) f b u [] w = tt
well_drop (suc k) f b u (base n ∷ os) w = well_drop k f b u os (well_grow (suc n) f b u u os (omega (arith, w.0.0)) (omega arith) w.1)
well_drop (suc k) f b u (entered n t ∷ os) w = well_drop k f b u os w.1

well_stretch : (s : Source) (a n f b u : ℕ) (os : Os) → Lies s f a n b u → Well (past s f (a + n)) b u os → Well f b u (stretch s a n ++ os)
well_stretch Kept a zero f b u os h w = well_grow (a + 0) f b u u os (omega (arith, h.0)) (omega arith) w
well_stretch Kept a (suc n) f b u os h w =
    let e : a + suc n ≡ suc a + n = omega arith in
    ((h.0, omega (arith, h.1)), well_stretch Kept (suc a) n (suc a) b u os (omega arith, omega (arith, h.1)) (subst (λ (i : ℕ). Well i b u os) e w))
well_stretch Entered a zero f b u os h w = w
well_stretch Entered a (suc n) f b u os h w = (omega (arith, h), well_stretch Entered (suc a) n f b u os (omega (arith, h)) w)

stretch_well : (s : Source) (a n f b u : ℕ) (os : Os) → Well f b u (stretch s a (suc n) ++ os) → Lies s f a (suc n) b u × Well (past s f (a + suc n)) b u os
stretch_well Kept a zero f b u os w =
    let e : suc a ≡ a + 1 = omega arith in ((w.0.0, omega (arith, w.0.1)), subst (λ (i : ℕ). Well i b u os) e w.1)
stretch_well Kept a (suc n) f b u os w =
    let h = stretch_well Kept (suc a) n (suc a) b u os w.1 in
    let e : suc a + suc n ≡ a + suc (suc n) = omega arith in
    ((w.0.0, omega (arith, h.0.1)), subst (λ (i : ℕ). Well i b u os) e h.1)
stretch_well Entered a zero f b u os w = (omega (arith, w.0), w.1)
stretch_well Entered a (suc n) f b u os w =
    let h = stretch_well Entered (suc a) n f b u os w.1 in (omega (arith, h.0), h.1)

stretch_well_some : (s : Source) (a n f b u : ℕ) (os : Os) → 0 < n → Well f b u (stretch s a n ++ os) → Lies s f a n b u × Well (past s f (a + n)) b u os
stretch_well_some s a zero f b u os pos w = absurd (omega arith)
stretch_well_some s a (suc n) f b u os pos w = stretch_well s a n f b u os w

pub placed_well : (f b u : ℕ) (ps : List Piece) → Placed f b u ps → Well f b u (spread ps)
placed_well f b u [] h = tt
placed_well f b u (p ∷ ps) h =
    let x = placed_first p.source p.first p.count f b u ps h in
    well_stretch p.source p.first p.count f b u (spread ps) x.0 (placed_well (past p.source f (p.first + p.count)) b u ps x.1)

pub well_placed : (f b u : ℕ) (ps : List Piece) → Joined ps → Well f b u (spread ps) → Placed f b u ps
well_placed f b u [] j w = (refl, refl)
well_placed f b u (p ∷ ps) j w =
    let h = stretch_well_some p.source p.first p.count f b u (spread ps) j.0 w in
    placed_more p.source p.first p.count f b u ps h.0 (well_placed (past p.source f (p.first + p.count)) b u ps j.2 h.1)

-- a correction keeps it
well_spliced : (p k n f b u : ℕ) (os : Os) → p ≤ k → Well f b u os → Well f b (u + n) (take p os ++ (stretch Entered u n ++ drop k os))
well_spliced zero k n f b u os le w =
    well_stretch Entered u n f b (u + n) (drop k os) (omega arith) (well_drop k f b (u + n) os (well_grow f f b u (u + n) os (omega arith) (omega arith) w))
well_spliced (suc p) k n f b u [] le w = well_stretch Entered u n f b (u + n) (drop k []) (omega arith) (well_drop k f b (u + n) [] tt)
well_spliced (suc p) zero n f b u (o ∷ os) le w = absurd (omega arith)
well_spliced (suc p) (suc k) n f b u (base m ∷ os) le w = (w.0, well_spliced p k n (suc m) b u os (omega arith) w.1)
well_spliced (suc p) (suc k) n f b u (entered m t ∷ os) le w = (omega (arith, w.0), well_spliced p k n f b u os (omega arith) w.1)

-- how many origins are entered words
abbrev one_word : Origin (Unit {0}) → ℕ
one_word (base n) = 0
one_word (entered k w) = 1

abbrev pub word_count : Os → ℕ
word_count [] = 0
word_count (o ∷ os) = one_word o + word_count os

words_append : (xs ys : Os) → word_count (xs ++ ys) ≡ word_count xs + word_count ys
words_append [] ys = omega arith
words_append (x ∷ xs) ys = omega (arith, words_append xs ys)

words-kept : (a n : ℕ) → word_count (stretch Kept a n) ≡ 0
words-kept a zero = refl
words-kept a (suc n) = omega (arith, words-kept (suc a) n)

words-entered : (a n : ℕ) → word_count (stretch Entered a n) ≡ n
words-entered a zero = refl
words-entered a (suc n) = omega (arith, words-entered (suc a) n)

words_more : (s : Source) (a n : ℕ) (ps : List Piece) → word_count (spread ps) ≡ total (of_source Entered ps)
    → word_count (stretch s a n) + word_count (spread ps) ≡ total (of_source Entered (piece s a n ∷ ps))
words_more Kept a n ps e = omega (arith, words-kept a n)
words_more Entered a n ps e = omega (arith, words-entered a n)

pub words_spread : (ps : List Piece) → word_count (spread ps) ≡ total (of_source Entered ps)
words_spread [] = refl
words_spread (p ∷ ps) =
    words_append (stretch p.source p.first p.count) (spread ps) ∙ words_more p.source p.first p.count ps (words_spread ps)

words-drop : (k : ℕ) (os : Os) → word_count (drop k os) ≤ word_count os
words-drop zero os = omega arith
words-drop (suc k) [] = omega arith
words-drop (suc k) (o ∷ os) = omega (arith, words-drop k os)

words-cut : (p k : ℕ) (os : Os) → p ≤ k → word_count (take p os) + word_count (drop k os) ≤ word_count os
words-cut zero k os le = omega (arith, words-drop k os)
words-cut (suc p) k [] le = omega (arith, words-drop k [])
words-cut (suc p) zero (o ∷ os) le = absurd (omega arith)
words-cut (suc p) (suc k) (o ∷ os) le = omega (arith, words-cut p k os (omega arith))

words-spliced : (p s n u : ℕ) (os : Os) → word_count (spliced p s (stretch Entered u n) os) ≤ word_count os + n
words-spliced p s n u os =
    omega (
      arith,
      words_append (take p os) (stretch Entered u n ++ drop (p + s) os),
      words_append (stretch Entered u n) (drop (p + s) os),
      words-entered u n,
      words-cut p (p + s) os (omega arith),
    )

length-spliced : (p s n u : ℕ) (os : Os) → p + s ≤ length os → length (spliced p s (stretch Entered u n) os) ≡ length os - s + n
length-spliced p s n u os h =
    omega (
      arith,
      length-append (take p os) (stretch Entered u n ++ drop (p + s) os),
      length-append (stretch Entered u n) (drop (p + s) os),
      length-stretch Entered u n,
      length-take p os,
      length-drop (p + s) os,
    )

-- what is true of every journal, of its pieces
pub record SoundPieces (b u : ℕ) (ps : List Piece) : Type 0 where
  pub counts : none_empty ps ≡ true
  pub joined : none_joins ps ≡ true
  pub short : total ps ≤ 1048576
  pub kept : rise 0 b (of_source Kept ps) ≡ true
  pub inside : within u (of_source Entered ps) ≡ true
  pub counted : total (of_source Entered ps) ≤ u

-- and of the pieces after a correction
module _ (ps qs : List Piece) (b u p s n : ℕ) (h : SoundPieces b u ps) (counts : none_empty qs ≡ true) (joined : none_joins qs ≡ true)
    (e : spread qs ≡ spliced p s (stretch Entered u n) (spread ps)) where
  pub sound-after : p + s ≤ length (spread ps) → length (spread ps) - s + n ≤ 1048576 → SoundPieces b (u + n) qs
  sound-after inside short =
      let placed = well_placed 0 b (u + n) qs (joined_fact qs counts joined)
      (subst (λ (os : Os). Well 0 b (u + n) os) (sym e) (well_spliced p (p + s) n 0 b u (spread ps) (omega arith) (placed_well 0 b u ps (h.kept, h.inside)))) in
      record {
        counts = counts;
        joined = joined;
        short = omega (arith, ap length e, length-spliced p s n u (spread ps) inside, length-spread qs);
        kept = placed.0;
        inside = placed.1;
        counted = omega (arith, words_spread ps, words_spread qs, ap word_count e, words-spliced p s n u (spread ps), h.counted);
      }

-- and of the pieces for the base places below b
pub sound-start : (ps : List Piece) (b : ℕ) → b ≤ 1048576 → none_empty ps ≡ true → none_joins ps ≡ true → spread ps ≡ stretch Kept 0 b → SoundPieces b 0 ps
sound-start ps b few counts joined e =
    let placed = well_placed 0 b 0 ps (joined_fact ps counts joined)
    (subst (λ (os : Os). Well 0 b 0 os) (append-nil (stretch Kept 0 b) ∙ sym e) (well_stretch Kept 0 b 0 b 0 [] (omega arith, omega arith) tt)) in
    record {
      counts = counts;
      joined = joined;
      short = omega (arith, ap length e, length-stretch Kept 0 b, length-spread ps);
      kept = placed.0;
      inside = placed.1;
      counted = omega (arith, words_spread ps, ap word_count e, words-kept 0 b);
    }
