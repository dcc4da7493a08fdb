-- Pads that can be met can be wired.
use Rattle.std.proofs.Common.{◌≡◌, ℕ, List, [], ◌∷◌, map, sym, refl, subst}
use Rattle.boards.specs.Meaning.{Meaning}
use Rattle.linkages.specs.Lists.{Mem, here, there, Distinct}
use Rattle.linkages.specs.Paths.{Landing, Walk, stop, step, Path, Linkage, LandsOnce, upto_landing}
use Rattle.linkages.specs.Nets.{first_of, pads_of, Wiring, LinkagesWire}
use Rattle.linkages.proofs.Members.{mem_of_map}
use Rattle.linkages.proofs.Pigeons.{disjoint_paths}
use Rattle.linkages.proofs.Walks.{upto_landing_front, front_within, lands_once, truncated}

last_of : List ℕ → ℕ
last_of [] = 0
last_of (x ∷ []) = x
last_of (x ∷ y ∷ ys) = last_of (y ∷ ys)

walk_first_of : {m : Meaning} {bars : List ℕ} {z a : ℕ} {xs : List ℕ} → Walk m bars z a xs → a ≡ first_of xs
walk_first_of (stop f e) = refl
walk_first_of (step f o w) = refl

walk_last_of : {m : Meaning} {bars : List ℕ} {z a : ℕ} {xs : List ℕ} → Walk m bars z a xs → z ≡ last_of xs
unfolding last_of
walk_last_of (stop f e) = sym e
walk_last_of (step f o (stop g e)) = sym e
walk_last_of (step f o (step g p w)) = walk_last_of (step g p w)

map_same : (f : List ℕ → ℕ) (g : ℕ → List ℕ) (S : List ℕ) → ((q : ℕ) → Mem q S → f (g q) ≡ q) → map f (map g S) ≡ S
map_same f g [] same = refl
map_same f g (q ∷ S) same = let e = same q (here refl) in let k = map_same f g S (λ r i. same r (there i)) in cc

module _ (m : Meaning) (bars S : List ℕ) (d : Distinct S) (L : Linkage m bars S) where
  net : ℕ → List ℕ
  net q = upto_landing m (L.path q)

  record Good (q : ℕ) (xs : List ℕ) : Type 0 where
    first : q ≡ first_of xs
    runs : Path m bars q (last_of xs) xs
    lands : Landing m (last_of xs)

  good : (q : ℕ) → Mem q S → Good q (net q)
  unfolding net
  good q k =
      let t = (truncated m bars q (L.end q) (L.path q) (L.runs q k) (L.lands q k)).2 in
      let P = t.2 in
      let e = walk_last_of P.walk in
      record {
        first = walk_first_of P.walk;
        runs = subst (λ (z : ℕ). Path m bars q z (upto_landing m (L.path q))) e P;
        lands = subst (Landing m) e t.1;
      }

  on_path : (q c : ℕ) → Mem c (net q) → Mem c (L.path q)
  unfolding net
  on_path q c = front_within (upto_landing m (L.path q)) (L.path q) (upto_landing_front m (L.path q)) c

  wiring : Wiring m bars (map net S)
  unfolding net
  wiring = record {
    disjoint = disjoint_paths S net d (λ q r c k l i j. L.apart q r c k l (on_path q c i) (on_path r c j));
    end = last_of;
    runs = λ xs k.
        let t = mem_of_map net xs S k in
        let g = good t.0 t.1 in
        subst (λ (ys : List ℕ). Path m bars (first_of ys) (last_of ys) ys) (sym t.2)
        (subst (λ (a : ℕ). Path m bars a (last_of (net t.0)) (net t.0)) g.first g.runs);
    lands = λ xs k.
        let t = mem_of_map net xs S k in
        subst (λ (ys : List ℕ). Landing m (last_of ys)) (sym t.2) (good t.0 t.1).lands;
    lands_once = λ xs k. let t = mem_of_map net xs S k in subst (LandsOnce m) (sym t.2) (lands_once m (L.path t.0));
  }

  pads : pads_of (map net S) ≡ S
  pads = map_same first_of net S (λ q k. sym (good q k).first)

pub linkages_wire : LinkagesWire
linkages_wire m bars S d L = (map (net m bars S d L) S, wiring m bars S d L, pads m bars S d L)
