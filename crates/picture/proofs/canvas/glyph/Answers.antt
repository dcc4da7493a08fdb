use Rattle.std.proofs.Common.{◌≡◌, ℕ, Bool, List, Some, None, Option, Decides, MatchOption, subst, rules}
use Rattle.std.proofs.lemmas.Bool.Decides.{same_from_decides}
use Rattle.boards.specs.declared.place.Place.{Place}
use Rattle.boards.specs.Meaning.{Meaning, pad_at, landing_at}
use Rattle.boards.specs.Places.{Finds, Placed}
use Rattle.picture.specs.Glyphs.{letter, LeavesLayer, GlyphOf}
use Rattle.picture.proofs.canvas.glyph.Goals as goal

glyph_found : (m : Meaning) (ps : List Place) (p : Place) (cell : Option ℕ) (glyph : ℕ) → Placed m ps → Finds ps p cell →
    MatchOption cell (glyph ≡ 32) (λ c. (via : Bool) × Decides via (LeavesLayer m ps c p.layer) × (glyph ≡ letter (pad_at m c) (landing_at m c) via)) →
    GlyphOf m ps p glyph
glyph_found m ps p (Some c) glyph placed found shown = record {
  blank = λ none. absurd (none c found);
  cell = λ d e via decides.
      let same : c ≡ d = placed.apart _ _ _ found e in
      let there = subst (λ (x : ℕ). Decides shown.0 (LeavesLayer m ps x p.layer)) same shown.1 in
      let v = same_from_decides shown.0 via there decides in
      cc (shown.2, v, same);
}
glyph_found m ps p None glyph placed found shown = record {
  blank = λ _. shown;
  cell = λ c e via decides. absurd (found c e);
}

pub returns : goal.returns
returns g c = glyph_found _ _ _ _ _ (g.met.B.PlacedBoard.placed c.args.board.now) c.cell_at.ensures (search rules)
