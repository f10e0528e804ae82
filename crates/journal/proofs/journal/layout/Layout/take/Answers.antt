use Rattle.std.proofs.Common.{◌≡◌, ℕ, ◌+◌, ◌-◌, List, [], ◌++◌, length, get_or, take, drop, sym, refl, ap, ◌∙◌, subst, ap₂, arith, length-append}
use Rattle.std.proofs.lemmas.List.{take_all}
use Rattle.std.proofs.lemmas.Result.{err_from_is_err_and}
use Rattle.journal.specs.declared.piece.Piece.{Piece}
use Rattle.journal.specs.declared.piece.Source.{Source}
use Rattle.journal.specs.declared.piece.Source.TheVariants.{Kept}
use Rattle.journal.specs.Machine.{Origin, Answer, answers}
use Rattle.journal.specs.Pieces.{piece, stretch, spread, part, within, length-stretch}
use Rattle.journal.specs.Journals.{state, told_by}
use Rattle.journal.specs.Tidied.{words_in}
use Rattle.journal.specs.Layouts.{Lays}
use Rattle.journal.proofs.Spreads.{length_more, spread_fewer}
use Rattle.journal.proofs.Cuts.{within-at, step, length_part, part_split}
use Rattle.journal.proofs.Places.{Lies, Placed, lies_at}
use Rattle.journal.proofs.Journals.{ends, short}
use Rattle.journal.proofs.Layouts.{told_part, told_more, length-told, words_fewer}
use Rattle.journal.proofs.journal.layout.Layout.take.Goals as goal
use Rattle.journal.proofs.journal.layout.Layout.take.Goals.{After-as_slice-pieces, After-cut}

abbrev blank : Piece
blank = piece Kept 0 0

abbrev Os : Type 0
Os = List (Origin (Unit {0}))

-- all of it is what the journal answers
whole : (c : goal.After-as_slice-pieces)
    → told_by c.as_slice-words.result.now (part c.args.start c.args.end (spread c.as_slice-pieces.result.now))
    ≡ part c.args.start c.args.end (answers (state c.args.journal.now))
whole c =
    told_part c.as_slice-words.result.now c.args.start c.args.end (spread c.as_slice-pieces.result.now)
    ∙ ap₂ (λ (ws : List ℕ) (ps : List Piece). part c.args.start c.args.end (told_by ws (spread ps))) c.as_slice-words.ensures.words c.as_slice-pieces.ensures

turn : (c : goal.After-cut)
    → part c.args.start c.args.end (spread (take c.loop-piece.piece-index c.as_slice-pieces.result.now))
    ++ stretch c.cut.result.source c.cut.result.first c.cut.result.count
    ≡ part c.args.start c.args.end (spread (take (c.loop-piece.piece-index + 1) c.as_slice-pieces.result.now))
turn c =
    step [] (part c.args.start c.args.end (spread (take c.loop-piece.piece-index c.as_slice-pieces.result.now)))
    (stretch c.cut.result.source c.cut.result.first c.cut.result.count)
    c.args.start c.args.end c.loop-piece.at c.as_slice-pieces.result.now c.loop-piece.piece-index blank c.loop-piece-test.true
    c.loop-piece.invariant.0 refl c.cut.ensures.places

pub cut-requires : goal.cut-requires
cut-requires c =
    omega (
      arith,
      within-at 1048576 c.as_slice-pieces.result.now c.loop-piece.piece-index blank c.loop-piece-test.true
          (ap (within 1048576) c.as_slice-pieces.ensures ∙ ends c.args.journal.now),
    )

pub lay-requires : goal.lay-requires
lay-requires c =
    let j = c.args.journal.now in
    let ws = c.as_slice-words.result.now in
    let ps = c.as_slice-pieces.result.now in
    let i : ℕ = c.loop-piece.piece-index in
    let old : Os = part c.args.start c.args.end (spread (take i ps)) in
    let lies = lies_at 0 j.started j.words.used c.as_slice-pieces.result.now i blank c.loop-piece-test.true
    (subst (Placed 0 j.started j.words.used) (sym c.as_slice-pieces.ensures) (j.kept, j.inside)) in
    record {
      takes = (
        c.requires.0 ++ told_by c.as_slice-words.result.now (part c.args.start c.args.end (spread (take c.loop-piece.piece-index c.as_slice-pieces.result.now))),
        c.loop-piece.invariant.1 c.requires.0 c.requires.1,
        omega (
          arith,
          length-told ws c.requires.0 old,
          ap length (turn c),
          length-append old (stretch c.cut.result.source c.cut.result.first c.cut.result.count),
          length-stretch c.cut.result.source c.cut.result.first c.cut.result.count,
          length_part c.args.start c.args.end (spread (take (i + 1) ps)),
          c.requires.2,
        ),
      );
      inside = λ e.
          let in_words_lem = subst (λ (s : Source). Lies s lies.0 (get_or ps i blank).first (get_or ps i blank).count j.started j.words.used)
          (sym (e ∙ c.cut.ensures.ends.0)) lies.1 in
          omega (arith, c.cut.ensures.ends.1, in_words_lem, c.as_slice-words.ensures.used);
    }

pub returns-in_err-lay : goal.returns-in_err-lay
returns-in_err-lay c =
    let p = err_from_is_err_and c.from_residual.result c.from_residual.ensures.1 in
    let g = c.in_err-lay.ensures in
    let ws = c.as_slice-words.result.now in
    let ps = c.as_slice-pieces.result.now in
    let a : ℕ = c.args.start in
    let b : ℕ = c.args.end in
    let k : ℕ = c.loop-piece.piece-index + 1 in
    let new : Os = part a b (spread (take k ps)) in
    let rest : Os = part (a - length (spread (take k ps))) (b - length (spread (take k ps))) (spread (drop k ps)) in
    rw (p.1, p.2) (
      g.0,
      λ xs h.
          omega (
            arith,
            g.1 _ (c.loop-piece.invariant.1 xs h),
            ap (λ (ys : List (Answer ℕ)). length (words_in ys))
                (told_more ws xs (part a b (spread (take c.loop-piece.piece-index ps)))
                (stretch c.cut.result.source c.cut.result.first c.cut.result.count) new (turn (goal.at.returns-in_err-lay c).After-cut)),
            words_fewer (xs ++ told_by ws new) (told_by ws rest),
            ap (λ (ys : List (Answer ℕ)). length (words_in ys)) (told_more ws xs new rest (part a b (spread ps)) (sym (part_split a b ps k))),
            ap (λ (ys : List (Answer ℕ)). length (words_in (xs ++ ys))) (whole (goal.at.returns-in_err-lay c).After-as_slice-pieces),
          ),
    )

pub overflow_add-at : goal.overflow_add-at
overflow_add-at c =
    let ps = c.as_slice-pieces.result.now in
    omega (
      arith,
      c.loop-piece.invariant.0,
      length_more ps c.loop-piece.piece-index blank c.loop-piece-test.true,
      spread_fewer ps (c.loop-piece.piece-index + 1),
      ap (λ (qs : List Piece). length (spread qs)) c.as_slice-pieces.ensures,
      short c.args.journal.now,
    )

pub loop-piece-preserved : goal.loop-piece-preserved
loop-piece-preserved c =
    let ws = c.as_slice-words.result.now in
    let ps = c.as_slice-pieces.result.now in
    let i : ℕ = c.loop-piece.piece-index in
    let a = c.args.start in
    let b = c.args.end in
    let cut : Os = stretch c.cut.result.source c.cut.result.first c.cut.result.count in (
      omega (arith, c.loop-piece.invariant.0, length_more ps i blank c.loop-piece-test.true),
      λ xs h.
          subst (Lays c.lay.new.self)
          (told_more c.as_slice-words.result.now xs (part a b (spread (take c.loop-piece.piece-index c.as_slice-pieces.result.now))) cut _
          (turn (goal.at.loop-piece-preserved c).After-cut))
          (c.in_ok-lay.ensures _ (c.loop-piece.invariant.1 xs h)),
    )

pub returns : goal.returns
returns c = λ xs h.
    subst (λ (ys : List (Answer ℕ)). Lays c.loop-piece.self (xs ++ ys))
    (ap (λ (ps : List Piece). told_by c.as_slice-words.result.now (part c.args.start c.args.end (spread ps)))
    (take_all c.loop-piece.piece-index c.as_slice-pieces.result.now c.loop-piece-test.false)
    ∙ whole (goal.at.returns c).After-as_slice-pieces)
    (c.loop-piece.invariant.1 xs h)
