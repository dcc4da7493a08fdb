-- What one answer of a record says of the others.
use Rattle.std.proofs.Common.{◌≡◌, ℕ, ◌<◌, true, false, List, length, Some, None, Option, sym, refl, ap, ◌∙◌, ⊎_elim}
use Rattle.std.proofs.lemmas.List.{get_or_past}
use Rattle.std.proofs.lemmas.Bool.{cases_lt, false≢true}
use Rattle.std.proofs.lemmas.Option.{none-some}
use Rattle.records.specs.declared.record.Record.{Record}
use Rattle.records.specs.declared.record.Record.TheVariants.{Free, Barred, Net}
use Rattle.records.specs.Records.{before_of, after_of, is_net, is_first, is_last, is_barred}
use Rattle.drawings.specs.Nets.{net_at}

pub none_not_some : {x : ℕ} → None ≡ Some x → ⊥
none_not_some {x} e = none-some x e

pub some_same : {o : Option ℕ} {x y : ℕ} → o ≡ Some x → o ≡ Some y → x ≡ y
some_same e f = cc

pub before_net : (r : Record) (s : ℕ) → before_of r ≡ Some s → (is_net r ≡ true) × (is_first r ≡ false)
before_net Free s e = absurd (none_not_some e)
before_net Barred s e = absurd (none_not_some e)
before_net (Net None a) s e = absurd (none_not_some e)
before_net (Net (Some b) a) s e = (refl, refl)

pub after_net : (r : Record) (t : ℕ) → after_of r ≡ Some t → (is_net r ≡ true) × (is_last r ≡ false)
after_net Free t e = absurd (none_not_some e)
after_net Barred t e = absurd (none_not_some e)
after_net (Net b None) t e = absurd (none_not_some e)
after_net (Net b (Some a)) t e = (refl, refl)

pub first_net : (r : Record) → is_first r ≡ true → is_net r ≡ true
first_net Free e = absurd (false≢true e)
first_net Barred e = absurd (false≢true e)
first_net (Net b a) e = refl

pub last_net : (r : Record) → is_last r ≡ true → (is_net r ≡ true) × (after_of r ≡ None)
last_net Free e = absurd (false≢true e)
last_net Barred e = absurd (false≢true e)
last_net (Net b None) e = (refl, refl)
last_net (Net b (Some t)) e = absurd (false≢true e)

pub net_last : (r : Record) → is_net r ≡ true → after_of r ≡ None → is_last r ≡ true
net_last Free e f = absurd (false≢true e)
net_last Barred e f = absurd (false≢true e)
net_last (Net b None) e f = refl
net_last (Net b (Some t)) e f = absurd (none_not_some (sym f))

pub net_first : (r : Record) → is_net r ≡ true → before_of r ≡ None → is_first r ≡ true
net_first Free e f = absurd (false≢true e)
net_first Barred e f = absurd (false≢true e)
net_first (Net None a) e f = refl
net_first (Net (Some s) a) e f = absurd (none_not_some (sym f))

pub net_unbarred : (r : Record) → is_net r ≡ true → is_barred r ≡ false
net_unbarred Free e = refl
net_unbarred Barred e = absurd (false≢true e)
net_unbarred (Net b a) e = refl

-- a net cell has a record
pub net_inside : (d : List Record) (c : ℕ) → net_at d c ≡ true → c < length d
net_inside d c e = ⊎_elim (λ l. l) (λ h. absurd (false≢true (sym (ap is_net (get_or_past d c Free h)) ∙ e))) (cases_lt c (length d))
