-- The laws of a journal's form and of what is written to it. Assumes nothing.
use Rattle.std.proofs.Common.{◌≡◌, ℕ, suc, ◌+◌, ◌-◌, ◌*◌, ◌≤◌, ◌<◌, List, Bool, true, false, refl, arith}
use Rattle.steps.specs.Choice.{pick}
use Rattle.byte_numbers.specs.Bytes.{num_at}
use Rattle.value.specs.declared.Field.{Field}
use Rattle.value.specs.declared.Field.TheVariants.{NoField}
use Rattle.value.specs.Value.{width_of}
use Rattle.journal.specs.declared.Entry.{Entry}
use Rattle.journal.specs.Entries.{entry_at, entry_in, entry_fits, fits_at, entries_fit}

-- ---- the form: e is the answer from the first entry on, and i of n entries are behind
module _ (j : List ℕ) (n i : ℕ) (e : Bool) (on : entries_fit j (entry_at i) (n - i) ≡ e) where
  pub entries_right : n ≤ i → true ≡ e
  unfolding entries_fit
  entries_right h = let z : n - i ≡ 0 = omega arith in rw z at on

  module _ (some : i < n) (x : Entry) (is : x ≡ entry_in j (entry_at i)) (fits : Bool) (judged : fits ≡ entry_fits x.kind x.width x.old x.new) where
    stepped : pick fits (entries_fit j (entry_at (i + 1)) (n - (i + 1))) false ≡ e
    unfolding entries_fit fits_at entry_in
    stepped =
        let s : n - i ≡ suc (n - (i + 1)) = omega arith in
        let next : 16 + (i + 1) * 28 ≡ 16 + i * 28 + 28 = omega arith in
        rw (judged, is, next) (rw s at on)

    pub entry_wrong : fits ≡ false → false ≡ e
    unfolding pick
    entry_wrong h = rw h at stepped

    pub entry_right : fits ≡ true → entries_fit j (entry_at (i + 1)) (n - (i + 1)) ≡ e
    unfolding pick
    entry_right h = rw h at stepped

pub ruleset entries_laws = (entries_right, entry_wrong, entry_right)

-- ---- a value field's number
pub number_none : (s : List ℕ) (k : Field) (p : ℕ) → k ≡ NoField → 0 ≡ num_at s (width_of k) p
unfolding num_at
number_none s k p h = rw h refl
