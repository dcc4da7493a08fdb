-- Paths under other bars, and linkages for fewer pads.
use Rattle.std.proofs.Common.{ℕ, List, refl}
use Rattle.boards.specs.Meaning.{Meaning}
use Rattle.linkages.specs.Lists.{Mem, here, there, Within}
use Rattle.linkages.specs.Paths.{Unbarred, Walk, stop, step, Path, LinkageForLess}
use Rattle.linkages.proofs.Walks.{walk_unbarred}

-- a walk is unbarred under all bars that are not on it
pub walk_under : {m : Meaning} {bars bars' : List ℕ} {z a : ℕ} {xs : List ℕ} → ((c : ℕ) → Mem c xs → Unbarred bars' c) →
    Walk m bars z a xs → Walk m bars' z a xs
walk_under {a = a} n (stop f e) = stop (n a (here refl)) e
walk_under {a = a} n (step f o w) = step (n a (here refl)) o (walk_under (λ c k. n c (there k)) w)

pub path_under : {m : Meaning} {bars bars' : List ℕ} {z a : ℕ} {xs : List ℕ} → ((c : ℕ) → Mem c xs → Unbarred bars' c) →
    Path m bars a z xs → Path m bars' a z xs
path_under n P = record { walk = walk_under n P.walk; distinct = P.distinct }

pub path_fewer_bars : {m : Meaning} {bars bars' : List ℕ} {z a : ℕ} {xs : List ℕ} → Within bars' bars →
    Path m bars a z xs → Path m bars' a z xs
path_fewer_bars b P = path_under (λ c k i. walk_unbarred P.walk k (b c i)) P

pub linkage_for_less : LinkageForLess
linkage_for_less m bars bars' S S' s b L = record {
  path = L.path;
  end = L.end;
  runs = λ q k. path_fewer_bars b (L.runs q (s q k));
  lands = λ q k. L.lands q (s q k);
  apart = λ q r c k l. L.apart q r c (s q k) (s r l);
}
