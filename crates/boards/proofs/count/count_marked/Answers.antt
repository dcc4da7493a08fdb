use Rattle.std.proofs.Common.{◌≡◌, ℕ, suc, ◌+◌, Bool, false, cond, List, [], ◌∷◌, length, count_by, sym, refl, ap, ◌∙◌, add-zero, arith, rules}
use Rattle.std.specs.Prelude.{slice_index_or}
use Rattle.std.specs.List.{range_with_len}
use borrow.Author.Tests.{tests}
use Rattle.std.proofs.lemmas.List.Sums.{length-filter, sum_by-cons}
use Rattle.std.proofs.lemmas.Iterator.{YieldsList-from_range}
use Rattle.std.proofs.lemmas.Iterator.Consumers.{count_from_yields_List, YieldsList-from_filter, YieldsList-at}
use Rattle.boards.specs.declared.count.Mark.{Mark}
use Rattle.boards.specs.declared.count.Mark.TheVariants.{Pad, Landing}
use Rattle.boards.specs.Meaning.{Meaning, Bounded}
use Rattle.boards.specs.Counts.{marks, mark_at}
use Rattle.boards.proofs.count.count_marked.Goals as goal

one_each : (m : Meaning) → Bounded m → (mark : Mark) → length (marks m mark) ≡ m.cells
one_each m b Pad = b.pads_length
one_each m b Landing = b.landings_length

-- the numbers from a on that pass are as many as the list has marks
marked : (xs : List Bool) (a : ℕ) (p : ℕ → Bool) → ((i : ℕ) → p (a + i) ≡ slice_index_or xs i false) →
    count_by p (range_with_len a (length xs)) ≡ count_by (λ b. b) xs
marked [] a p h = refl
marked (x ∷ xs) a p h =
    let next : (i : ℕ) → a + 1 + i ≡ a + suc i = λ i. omega arith in
    sum_by-cons (λ c. cond (p c) 1 0) a (range_with_len (a + 1) (length xs))
    ∙ ap (λ t. cond t 1 0 + count_by p (range_with_len (a + 1) (length xs))) (ap p (sym (add-zero a)) ∙ h 0)
    ∙ ap (λ t. cond x 1 0 + t) (marked xs (a + 1) p (λ i. ap p (next i) ∙ h (suc i)))
    ∙ sym (sum_by-cons (λ b. cond b 1 0) x xs)

pub returns : goal.returns
returns g c =
    let m = g.B.Board.meaning c.args.board.now in
    let xs = marks m c.args.mark in
    let p = mark_at m c.args.mark in
    let each = one_each m (g.met.B.Board.bounded c.args.board.now) c.args.mark in
    count_from_yields_List c.filter.result _ c.count.ensures.ran
    (YieldsList-from_filter _ p (YieldsList-at c.filter.ensures.source (YieldsList-from_range 0 m.cells m.cells (cc) (omega arith))) c.filter.ensures.closure (λ x r q k. search (rules, tests)))
    ∙ length-filter p (range_with_len 0 m.cells) ∙ ap (λ n. count_by p (range_with_len 0 n)) (sym each)
    ∙ marked xs 0 p (λ i. let e : 0 + i ≡ i = omega arith in ap p e)
