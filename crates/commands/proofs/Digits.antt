-- Decimal digits one at a time.
-- left: the number that some digits and these make, where it is at most so large.
-- next: the value with one digit more, where it is at most so large.
use Rattle.std.proofs.Common.{◌≡◌, ℕ, ◌+◌, ◌-◌, ◌*◌, ◌<◌, ◌≤◌, Bool, true, false, cond, ◌&&◌, leb, List, [], ◌∷◌, length, get_or, drop, Some, None, Option, sym, refl, ap, ◌∙◌, arith}
use Rattle.std.proofs.lemmas.List.{at_drop_more, at_drop_all}
use Rattle.std.proofs.lemmas.Bool.Decides.{nat_tests}
use Rattle.commands.specs.Numerals.{and_some, digits, value, number_to}

-- with n for the digits before these
unfoldable pub left : ℕ → ℕ → List ℕ → Option ℕ
left most n ds = cond (digits ds && leb (value n ds) most) (Some (value n ds)) None

abbrev pub next : ℕ → ℕ → ℕ → Option ℕ
next most n d = cond (leb 48 d && leb d 57) (cond (leb (10 * n + (d - 48)) most) (Some (10 * n + (d - 48))) None) None

-- the value only grows
value_grows : (n : ℕ) (ds : List ℕ) → n ≤ value n ds
value_grows n [] = omega arith
value_grows n (d ∷ ds) = omega (arith, value_grows (10 * n + (d - 48)) ds)

-- a front that is over the limit makes the whole so
over : (most m : ℕ) (ds : List ℕ) → leb m most ≡ false → left most m ds ≡ None
unfolding left
over most m ds h = let g : m ≤ value m ds = value_grows m ds in grind (arith, nat_tests)

left_by : (most m : ℕ) (ds : List ℕ) (digit small : Bool) → leb m most ≡ small →
    cond ((digit && digits ds) && leb (value m ds) most) (Some (value m ds)) None
    ≡ and_some (cond digit (cond small (Some m) None) None) (λ k. left most k ds)
unfolding left
left_by most m ds false small h = refl
left_by most m ds true true h = refl
left_by most m ds true false h = over most m ds h

left-next : (most n d : ℕ) (ds : List ℕ) → left most n (d ∷ ds) ≡ and_some (next most n d) (λ k. left most k ds)
unfolding left
left-next most n d ds = left_by most (10 * n + (d - 48)) ds (leb 48 d && leb d 57) (leb (10 * n + (d - 48)) most) refl

pub next_most : (most n d m : ℕ) → Some m ≡ next most n d → m ≤ most
next_most most n d m h = grind (arith, nat_tests)

pub left_none : (most : ℕ) (field : List ℕ) → 0 < length field → left most 0 field ≡ number_to most field
unfolding left
left_none most [] h = absurd (omega arith)
left_none most (d ∷ ds) h = refl

left_at : (most n i : ℕ) (field : List ℕ) → i < length field →
    left most n (drop i field) ≡ and_some (next most n (get_or field i 0)) (λ k. left most k (drop (i + 1) field))
left_at most n i field h = at_drop_more (left most n) field i 0 h ∙ left-next most n (get_or field i 0) (drop (i + 1) field)

pub left_more : (most n i m : ℕ) (field : List ℕ) → i < length field → Some m ≡ next most n (get_or field i 0) →
    left most m (drop (i + 1) field) ≡ left most n (drop i field)
left_more most n i m field h e =
    ap (λ (o : Option ℕ). and_some o (λ k. left most k (drop (i + 1) field))) e ∙ sym (left_at most n i field h)

pub left_stop : (most n i : ℕ) (field : List ℕ) → i < length field → None ≡ next most n (get_or field i 0) →
    None ≡ left most n (drop i field)
left_stop most n i field h e =
    ap (λ (o : Option ℕ). and_some o (λ k. left most k (drop (i + 1) field))) e ∙ sym (left_at most n i field h)

left_end : (most n : ℕ) → n ≤ most → left most n [] ≡ Some n
unfolding left
left_end most n h = grind (arith, nat_tests)

pub left_all : (most n i : ℕ) (field : List ℕ) → length field ≤ i → n ≤ most → Some n ≡ left most n (drop i field)
left_all most n i field h k = sym (at_drop_all (left most n) field i h ∙ left_end most n k)
