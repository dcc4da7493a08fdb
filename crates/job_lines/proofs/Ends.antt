-- The first line of a text.
use Rattle.std.proofs.Common.{◌≡◌, ℕ, ◌<◌, List, [], ◌∷◌, ◌++◌, length, Some, None, Option, sym, refl, ap, ◌∙◌, inl, inr, append_assoc, arith, length-append}
use Rattle.std.proofs.lemmas.Bool.{ne_eqb, cond-false}
use Rattle.std.specs.Borrow.{Bor}
use Rattle.std.specs.Option.{unwrap_or}
use Rattle.std.specs.List.{AllByRecursion}
use Rattle.job_lines.specs.Words.{Lacks, Cut}
use Rattle.job_lines.specs.Lines.{begins, lines_of, FirstLine, ended, LinesComeBack}

pub lines_cut : (line rest : List ℕ) → Lacks 10 line → lines_of (line ++ 10 ∷ rest) ≡ line ∷ lines_of rest
lines_cut [] rest h = refl
lines_cut (b ∷ line) rest h = cond-false _ _ _ (ne_eqb b 10 h.0) ∙ ap (begins b) (lines_cut line rest h.1)

pub lines_whole : (b : ℕ) (line : List ℕ) → Lacks 10 (b ∷ line) → lines_of (b ∷ line) ≡ (b ∷ line) ∷ []
lines_whole b [] h = cond-false _ _ _ (ne_eqb b 10 h.0)
lines_whole b (x ∷ line) h = cond-false _ _ _ (ne_eqb b 10 h.0) ∙ ap (begins b) (lines_whole x line h.1)

-- a text with an LF
pub first_of_more : (text line rest : List ℕ) → Lacks 10 line → text ≡ line ++ 10 ∷ rest → FirstLine text line rest
first_of_more text line rest h e = record {
  whole = h;
  parts = inl e;
  first = ap lines_of e ∙ lines_cut line rest h;
  shorter = omega (arith, simp length-append at (ap length e));
}

-- a text with none
pub first_of_one : (text line rest : List ℕ) → 0 < length text → Lacks 10 text → line ≡ text → rest ≡ [] → FirstLine text line rest
first_of_one [] line rest some h e k = absurd (omega arith)
first_of_one (b ∷ text) line rest some h e k = record {
  whole = rw e h;
  parts = inr (sym e, k);
  first = rw (e, k) (lines_whole b text h);
  shorter = omega (arith, ap length k);
}

-- what `next_line` makes of a cut
pub first_of : (text : List ℕ) (parts : Option (Bor (List ℕ) × Bor (List ℕ))) (whole : Bor (List ℕ) × Bor (List ℕ)) → 0 < length text → Cut 10 text parts →
    whole.0.now ≡ text → whole.1.now ≡ [] → FirstLine text (unwrap_or parts whole).0.now (unwrap_or parts whole).1.now
first_of text (Some p) whole some cut e k = first_of_more text p.0.now p.1.now cut.0 cut.1
first_of text None whole some cut e k = first_of_one text whole.0.now whole.1.now some cut e k

ended_lines : (lines : List (List ℕ)) → AllByRecursion (Lacks 10) lines → lines_of (ended lines) ≡ lines
ended_lines [] h = refl
ended_lines (line ∷ lines) h = lines_cut line (ended lines) h.0 ∙ ap (λ (ls : List (List ℕ)). line ∷ ls) (ended_lines lines h.1)

one_line : (last : List ℕ) → Lacks 10 last → 0 < length last → lines_of last ≡ last ∷ []
one_line [] k some = absurd (omega arith)
one_line (b ∷ last) k some = lines_whole b last k

open_lines : (lines : List (List ℕ)) (last : List ℕ) → AllByRecursion (Lacks 10) lines → Lacks 10 last → 0 < length last → lines_of (ended lines ++ last) ≡ lines ++ last ∷ []
open_lines [] last h k some = one_line last k some
open_lines (line ∷ lines) last h k some =
    ap lines_of (append_assoc line (10 ∷ ended lines) last) ∙ lines_cut line (ended lines ++ last) h.0
    ∙ ap (λ (ls : List (List ℕ)). line ∷ ls) (open_lines lines last h.1 k some)

pub come_back : LinesComeBack
come_back = record { with_the_last = ended_lines; without_it = open_lines }
