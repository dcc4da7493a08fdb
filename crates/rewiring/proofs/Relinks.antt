-- What changes when a cell gets another cell after it, or before it.
use Rattle.std.proofs.Common.{◌≡◌, ℕ, ◌<◌, true, List, length, set, Some, None, Option, sym, refl, ap, ◌∙◌, ⊎_elim}
use Rattle.std.proofs.lemmas.List.{get_or-set_same, length-set}
use Rattle.std.proofs.lemmas.Bool.{cases_eq, false≢true}
use Rattle.records.specs.declared.record.Record.{Record}
use Rattle.records.specs.declared.record.Record.TheVariants.{Free, Barred, Net}
use Rattle.records.specs.Records.{before_of, after_of, is_net, is_barred, is_first, is_last, record_at}
use Rattle.drawings.specs.Nets.{before_at, after_at, net_at, first_at, last_at, barred_at}
use Rattle.drawings.proofs.Said.{net_unbarred, net_inside}
use Rattle.drawings.proofs.Changed.{set_other}
use Rattle.rewiring.specs.Moves.{with_before, with_after}

pub set_here : (d : List Record) (c : ℕ) (r : Record) → c < length d → record_at (set d c r) c ≡ r
set_here d c r h = get_or-set_same d c r Free h

-- what a write of one record does to one answer, if it is the same answer
kept_answer : {X : Type 0} (f : Record → X) (d : List Record) (c x : ℕ) (r : Record) → c < length d → f r ≡ f (record_at d c) →
    f (record_at (set d c r) x) ≡ f (record_at d x)
kept_answer f d c x r h same = ⊎_elim
    (λ e. ap (λ k. f (record_at (set d c r) k)) e ∙ ap f (set_here d c r h) ∙ same ∙ sym (ap (λ k. f (record_at d k)) e))
    (λ n. ap f (set_other d c x r n))
    (cases_eq x c)

-- a net cell with another cell after it begins a net if it did, and one with another before it ends one if it did
first_kept : (r : Record) (a : Option ℕ) → is_net r ≡ true → is_first (Net (before_of r) a) ≡ is_first r
first_kept Free a e = absurd (false≢true e)
first_kept Barred a e = absurd (false≢true e)
first_kept (Net None c) a e = refl
first_kept (Net (Some b) c) a e = refl

last_kept : (r : Record) (b : Option ℕ) → is_net r ≡ true → is_last (Net b (after_of r)) ≡ is_last r
last_kept Free b e = absurd (false≢true e)
last_kept Barred b e = absurd (false≢true e)
last_kept (Net c None) b e = refl
last_kept (Net c (Some a)) b e = refl

-- e is d, but that a comes after u and b before s
pub record Relinked (d e : List Record) (u s : ℕ) (a b : Option ℕ) : Type 0 where
  pub long : length e ≡ length d
  pub nets : (x : ℕ) → net_at e x ≡ net_at d x
  pub barred : (x : ℕ) → barred_at e x ≡ barred_at d x
  pub befores : (x : ℕ) → (x ≡ s → ⊥) → before_at e x ≡ before_at d x
  pub firsts : (x : ℕ) → (x ≡ s → ⊥) → first_at e x ≡ first_at d x
  pub afters : (x : ℕ) → (x ≡ u → ⊥) → after_at e x ≡ after_at d x
  pub lasts : (x : ℕ) → (x ≡ u → ⊥) → last_at e x ≡ last_at d x
  pub before_is : before_at e s ≡ b
  pub first_is : first_at e s ≡ is_first (Net b None)
  pub after_is : after_at e u ≡ a
  pub last_is : last_at e u ≡ is_last (Net None a)

first_any : (b x y : Option ℕ) → is_first (Net b x) ≡ is_first (Net b y)
first_any None x y = refl
first_any (Some b) x y = refl

last_any : (x y a : Option ℕ) → is_last (Net x a) ≡ is_last (Net y a)
last_any x y None = refl
last_any x y (Some a) = refl

pub relinked : (d : List Record) (u s : ℕ) (a b : Option ℕ) → net_at d u ≡ true → net_at d s ≡ true →
    Relinked d (with_before (with_after d u a) s b) u s a b
relinked d u s a b nu ns =
    let e = with_after d u a in
    let f = with_before e s b in
    let iu = net_inside d u nu in
    let ru = Net (before_at d u) a in
    let nets_e = λ (x : ℕ). kept_answer is_net d u x ru iu (sym nu) in
    let ne : net_at e s ≡ true = nets_e s ∙ ns in
    let is = net_inside e s ne in
    let rs = Net b (after_at e s) in
    let afters_f = λ (x : ℕ). kept_answer after_of e s x rs is refl in
    let lasts_f = λ (x : ℕ). kept_answer is_last e s x rs is (last_kept (record_at e s) b ne) in
    record {
      long = length-set e s rs ∙ length-set d u ru;
      nets = λ x. kept_answer is_net e s x rs is (sym ne) ∙ nets_e x;
      barred = λ x. kept_answer is_barred e s x rs is (sym (net_unbarred (record_at e s) ne)) ∙
          kept_answer is_barred d u x ru iu (sym (net_unbarred (record_at d u) nu));
      befores = λ x n. ap before_of (set_other e s x rs n) ∙ kept_answer before_of d u x ru iu refl;
      firsts = λ x n. ap is_first (set_other e s x rs n) ∙ kept_answer is_first d u x ru iu (first_kept (record_at d u) a nu);
      afters = λ x n. afters_f x ∙ ap after_of (set_other d u x ru n);
      lasts = λ x n. lasts_f x ∙ ap is_last (set_other d u x ru n);
      before_is = ap before_of (set_here e s rs is);
      first_is = ap is_first (set_here e s rs is) ∙ first_any b (after_at e s) None;
      after_is = afters_f u ∙ ap after_of (set_here d u ru iu);
      last_is = lasts_f u ∙ ap is_last (set_here d u ru iu) ∙ last_any (before_at d u) None a;
    }
