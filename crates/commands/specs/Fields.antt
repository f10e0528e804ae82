-- The fields of a line.
-- separates: a blank or a tab.
-- plain: a separator, or a byte from 21 to 7e (hex).
-- uncommented: what stands before the comment.
-- fields: the stretches between separators, none of them empty.
-- Assumes nothing.
use Rattle.std.specs.Prelude.{ℕ, Bool, true, cond, ◌&&◌, ◌||◌, List, [], ◌∷◌, ◌==◌, nat_le}

abbrev pub Field : Type 0
Field = List ℕ

abbrev pub separates : ℕ → Bool
separates b = b == 32 || b == 9

abbrev pub plain : ℕ → Bool
plain b = separates b || (nat_le 33 b && nat_le b 126)

abbrev pub all_plain : List ℕ → Bool
all_plain [] = true
all_plain (b ∷ bs) = plain b && all_plain bs

-- a comment begins with # (23 in hex)
abbrev pub uncommented : List ℕ → List ℕ
uncommented [] = []
uncommented (b ∷ bs) = cond (b == 35) [] (b ∷ uncommented bs)

-- a byte more in front of the first field
abbrev pub longer : ℕ → List Field → List Field
longer b [] = (b ∷ []) ∷ []
longer b (f ∷ fs) = (b ∷ f) ∷ fs

-- a byte that is no separator, before these bytes and their fields: where a separator or nothing follows, it is a field of its own
abbrev pub before : ℕ → List ℕ → List Field → List Field
before b [] fs = (b ∷ []) ∷ fs
before b (c ∷ cs) fs = cond (separates c) ((b ∷ []) ∷ fs) (longer b fs)

abbrev pub fields : List ℕ → List Field
fields [] = []
fields (b ∷ bs) = cond (separates b) (fields bs) (before b bs (fields bs))
