-- The law of one journal's history: what stands where at its end, and what is read there.
-- turn: an accepted correction, with the state that it met.
-- accepted: the corrections that no check refused, in order; those of a draft or a batch only where that changed the journal.
-- entry: a word with the point at which it was entered: the call, the correction in that call, the word in that correction, each counted from 0.
-- labelled: the same calls, with the entry of each word in its place.
-- item: a base place, or an entry: equal words entered at two points are two items.
-- stands: the item is what the run of the labelled calls answers at the place.
-- known: a base place below the length started for, or an entry of an accepted correction.
-- struck: an accepted correction met the item in the stretch that it strikes: `strikes` places from `at` on.
-- Assumes nothing.
use Rattle.std.specs.Prelude.{◌≡◌, ℕ, ◌+◌, ◌<◌, ◌≤◌, cond, ◌&&◌, ◌⊎◌, List, [], ◌∷◌, ◌++◌, map, length, Ok}
use Rattle.series.specs.declared.cell.Cell.{Cell}
use Rattle.series.specs.declared.cell.Cell.TheVariants.{Reading}
use Rattle.series.specs.Lists.{nth, indexed}
use Rattle.journal.specs.Machine.{State, Correction, correction, Answer, place, word, answers, start, passes, corrected, all_pass}
use Rattle.history.specs.Calls.{Call, correct, draft, batch, tidy, called, ran}
use Rattle.history.specs.Laid.{laid, corrections}

pub record Turn (W : Type 0) : Type 0 where
  pub met : State W
  pub made : Correction W

module _ {W : Type 0} where
  -- the turn of a correction, or none where it is refused
  abbrev pub turn : State W → Correction W → List (Turn W)
  turn st c = cond (passes st c) (record { met = st; made = c } ∷ []) []

  -- the turns of corrections, one after another
  abbrev pub turns_of : State W → List (Correction W) → List (Turn W)
  turns_of st [] = []
  turns_of st (c ∷ cs) = turn st c ++ turns_of (corrected st c) cs

  -- the turns of a call
  abbrev pub turns_in : State W → Call W → List (Turn W)
  turns_in st (correct c) = turn st c
  turns_in st (draft cs kept) = cond kept (turns_of st cs) []
  turns_in st (batch cs whole) = cond (whole && all_pass st cs) (turns_of st cs) []
  turns_in st tidy = []

  -- the turns of a history
  abbrev pub turns : State W → List (Call W) → List (Turn W)
  turns st [] = []
  turns st (k ∷ ks) = turns_in st k ++ turns (called st k) ks

  -- by a journal started for n places
  abbrev pub accepted : ℕ → List (Call W) → List (Correction W)
  accepted n calls = map (λ t. t.made) (turns (start n) calls)

  -- how many places corrections strike
  abbrev pub all_struck : List (Correction W) → ℕ
  all_struck [] = 0
  all_struck (c ∷ cs) = c.strikes + all_struck cs

  -- how many words corrections enter
  abbrev pub all_entered : List (Correction W) → ℕ
  all_entered [] = 0
  all_entered (c ∷ cs) = length c.enters + all_entered cs

pub record Entry (W : Type 0) : Type 0 where
  pub value : W
  pub call : ℕ
  pub correction : ℕ
  pub index : ℕ

abbrev pub Item : Type 0 → Type 0
Item W = Answer (Entry W)

-- a call with f of its place in the call and itself for each correction
abbrev pub map_call : {V W : Type 0} → (ℕ → Correction V → Correction W) → Call V → Call W
map_call f (correct c) = correct (f 0 c)
map_call f (draft cs kept) = draft (indexed f 0 cs) kept
map_call f (batch cs whole) = batch (indexed f 0 cs) whole
map_call f tidy = tidy

module _ {W : Type 0} where
  -- the entry of word i of correction j of call k
  abbrev pub entry : ℕ → ℕ → ℕ → W → Entry W
  entry k j i w = record { value = w; call = k; correction = j; index = i }

  -- correction j of call k, with the entry of each word in its place
  abbrev pub label_correction : ℕ → ℕ → Correction W → Correction (Entry W)
  label_correction k j c = correction c.at c.strikes (indexed (entry k j) 0 c.enters)

  abbrev pub labelled : List (Call W) → List (Call (Entry W))
  labelled calls = indexed (λ k. map_call (label_correction k)) 0 calls

  -- a correction with the words of its entries
  abbrev pub unlabelled : Correction (Entry W) → Correction W
  unlabelled c = correction c.at c.strikes (map (λ e. e.value) c.enters)

  -- what origin is to answer where an item stands
  abbrev pub plain : Item W → Answer W
  plain (place m) = place m
  plain (word e) = word e.value

-- some turn entered the word
pub record EnteredIn {E : Type 0} (ts : List (Turn E)) (e : E) : Type 0 where
  pub number : ℕ
  pub by : Turn E
  pub accepts : nth ts number ≡ Ok by
  pub index : ℕ
  pub enters : nth by.made.enters index ≡ Ok e

-- some turn met x in the stretch that it strikes
pub record StruckIn {E : Type 0} (ts : List (Turn E)) (x : Answer E) : Type 0 where
  pub number : ℕ
  pub by : Turn E
  pub accepts : nth ts number ≡ Ok by
  pub at : ℕ
  pub stood : nth (answers by.met) at ≡ Ok x
  pub from : by.made.at ≤ at
  pub below : at < by.made.at + by.made.strikes

-- a base place below n, or a word that some turn entered
abbrev pub KnownIn : {E : Type 0} → ℕ → List (Turn E) → Answer E → Type 0
KnownIn n ts (place m) = m < n
KnownIn n ts (word e) = EnteredIn ts e

-- P holds of exactly one
abbrev pub Once : {A : Type 0} → (A → Type 0) → Type 0
Once {A} P = (a : A) × P a × ((b : A) → P b → b ≡ a)

-- a journal started for n places, and the calls made on it
module _ {W : Type 0} (n : ℕ) (calls : List (Call W)) where
  abbrev pub Stands : Item W → ℕ → Type 0
  Stands x q = nth (answers (ran (start n) (labelled calls))) q ≡ Ok x

  abbrev pub Known : Item W → Type 0
  Known x = KnownIn n (turns (start n) (labelled calls)) x

  abbrev pub Struck : Item W → Type 0
  Struck x = StruckIn (turns (start n) (labelled calls)) x

  -- at the end of the history: the journal's state, the cells of the base that it is laid on, and the series that is read
  pub record Law {R : Type 0} (encode : R → W) (decode : W → R) (st : State W) (cells series : List (Cell R)) : Type 0 where
    -- an item stands at exactly one place and no accepted correction struck it, or it stands nowhere and some accepted correction did;
    pub item : (x : Item W) → Known x → (Once (λ q. Stands x q) × (Struck x → ⊥)) ⊎ (((q : ℕ) → Stands x q → ⊥) × Struck x)
    -- nothing else stands, and at each place of the series exactly one item does;
    pub known : (x : Item W) (q : ℕ) → Stands x q → Known x
    pub filled : (q : ℕ) → q < length series → Once (λ x. Stands x q)
    -- base places stand in rising order;
    pub rising : (l m q r : ℕ) → l < m → Stands (place l) q → Stands (place m) r → q < r
    -- origin answers a base place exactly where it stands, and an entry's word where the entry stands;
    pub origin : (x : Item W) (q : ℕ) → Stands x q → nth (answers st) q ≡ Ok (plain x)
    pub bases : (m q : ℕ) → nth (answers st) q ≡ Ok (place m) → Stands (place m) q
    -- the length and all struck are together the length started for and all entered;
    pub balance : length series + all_struck (accepted n calls) ≡ n + all_entered (accepted n calls)
    -- a base place reads as the base's cell, an entry as its word's reading, and as that reading where the word is a reading's own;
    pub of_base : (m q : ℕ) → Stands (place m) q → nth series q ≡ nth cells m
    pub of_word : (e : Entry W) (q : ℕ) → Stands (word e) q → nth series q ≡ Ok (Reading (decode e.value))
    pub of_own : (e : Entry W) (q : ℕ) (r : R) → decode (encode r) ≡ r → e.value ≡ encode r → Stands (word e) q → nth series q ≡ Ok (Reading r)
    -- the series is the base's cells with the accepted corrections made on them in turn;
    pub edited : series ≡ corrections decode cells (accepted n calls)
    -- and the labelled calls have the same corrections accepted.
    pub alike : accepted n calls ≡ map unlabelled (accepted n (labelled calls))

-- for words and readings of any types, every base, every tag and every list of calls
abbrev pub HistoryLaw : Type 0 → Type 0 → Type 0
HistoryLaw W R =
    (encode : R → W) (decode : W → R) (cells : List (Cell R)) (tag : ℕ) (calls : List (Call W)) →
    let st = ran (start (length cells)) calls in
    Law (length cells) calls encode decode st cells (laid decode tag cells st)
