-- The board of a sound plan: the map check accepts its map, and what is kept out are its cells.
use Rattle.std.proofs.Common.{◌≡◌, ℕ, ◌*◌, ◌<◌, Bool, ltb, List, [], ◌∷◌, filter, refl, ap, ◌∙◌, ⊎_elim, arith}
use mathlib.Core.Path.{fun_ext}
use Rattle.std.specs.List.{AllByRecursion}
use Rattle.std.proofs.lemmas.Bool.{cond-true, lt-ltb}
use Rattle.boards.specs.declared.maps.MapKind.{MapKind}
use Rattle.boards.specs.declared.maps.MapKind.TheVariants.{FieldMap, EscapeMap}
use Rattle.boards.specs.Meaning.{Meaning}
use Rattle.boards.specs.Refusals.{NoneHolds}
use Rattle.boards.specs.Maps.{MapFault}
use Rattle.boards.specs.KeepOuts.{keep_out}
use Rattle.job_boards.specs.Plans.{Plan, Sound, layers, base}

pub map_accepted : (p : Plan) → Sound p → NoneHolds (MapFault p.kind p.rows p.columns p.map)
map_accepted p s k f = ⊎_elim
    (λ x. x.1 s.sides)
    (λ g. ⊎_elim (λ x. x.1 s.full) (λ x. omega (arith, s.bytes x.1.0, x.1.2)) g)
    f

cells_of_base : (kind : MapKind) (R C : ℕ) (bytes : List ℕ) → (base kind R C bytes).cells ≡ layers kind * (R * C)
cells_of_base FieldMap R C bytes = refl
cells_of_base EscapeMap R C bytes = refl

all_kept : (n : ℕ) (xs : List ℕ) → AllByRecursion (λ x. x < n) xs → filter (λ x. ltb x n) xs ≡ xs
all_kept n [] h = refl
all_kept n (x ∷ xs) h = cond-true _ _ _ (lt-ltb x n h.0) ∙ ap (λ ys. x ∷ ys) (all_kept n xs h.1)

pub kept_are_cells : (p : Plan) → Sound p →
    filter (λ x. ltb x (base p.kind p.rows p.columns p.map).cells) p.kept ≡ p.kept
kept_are_cells p s =
    ap (λ n. filter (λ x. ltb x n) p.kept) (cells_of_base p.kind p.rows p.columns p.map)
    ∙ all_kept (layers p.kind * (p.rows * p.columns)) p.kept s.cells

-- a keep-out is what it closes
pub same_keep_out : (f g : ℕ → Bool) (m : Meaning) → ((c : ℕ) → f c ≡ g c) → keep_out f m ≡ keep_out g m
same_keep_out f g m e = ap (λ closed. keep_out closed m) (fun_ext e)
