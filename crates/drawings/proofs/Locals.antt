-- The local rules at a number that is no cell.
use Rattle.std.proofs.Common.{◌≡◌, ℕ, ◌<◌, List, length, sym, ap, ◌∙◌, ⊎_elim}
use Rattle.std.proofs.lemmas.List.{get_or_past}
use Rattle.std.proofs.lemmas.Bool.{cases_lt, false≢true}
use Rattle.boards.specs.Meaning.{Meaning}
use Rattle.records.specs.declared.record.Record.{Record}
use Rattle.records.specs.declared.record.Record.TheVariants.{Free}
use Rattle.records.specs.Records.{before_of, after_of, is_net, is_first, is_last, record_at}
use Rattle.drawings.specs.Lawful.{Local}
use Rattle.drawings.proofs.Said.{none_not_some}

pub local_free : (m : Meaning) (d : List Record) (c : ℕ) → record_at d c ≡ Free → Local m d c
local_free m d c e = record {
  first_is_pad = λ h. absurd (false≢true (sym (ap is_first e) ∙ h));
  last_is_landing = λ h. absurd (false≢true (sym (ap is_last e) ∙ h));
  landing_is_last = λ h k. absurd (false≢true (sym (ap is_net e) ∙ h));
  after_is_outlet = λ t h. absurd (none_not_some (sym (ap after_of e) ∙ h));
  after_names_back = λ t h. absurd (none_not_some (sym (ap after_of e) ∙ h));
  before_names_on = λ s h. absurd (none_not_some (sym (ap before_of e) ∙ h));
}

pub local_everywhere : (m : Meaning) (d : List Record) → ((c : ℕ) → c < length d → Local m d c) → (c : ℕ) → Local m d c
local_everywhere m d f c = ⊎_elim (f c) (λ h. local_free m d c (get_or_past d c Free h)) (cases_lt c (length d))
