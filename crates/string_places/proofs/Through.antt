-- The laws of a fetch through a table. Assumes nothing.
use Prim.Native.Nat.{ℕ, ◌<◌}
use mathlib.Core.Path.{◌≡◌, refl, sym}
use mathlib.Core.List.{List, []}
use native.Mathlib.Omega.{arith}
use lib.ListN.{length}
use Rattle.record.specs.declared.Header.TheVariants.{Record}
use Rattle.record.specs.Record.{header_at}
use Rattle.record.proofs.Laws.{whole}
use Rattle.segments.specs.declared.Cursor.{Cursor}
use Rattle.std.specs.Prelude.{Ok, Err}
use Rattle.refusal.specs.declared.Refusal.{Refusal}
use Rattle.refusal.specs.Refused.{refuse}
use Rattle.segments.specs.Segments.{Got, got, refused, list_of}
use Rattle.segments.specs.Parts.{Inside, ends, moved, Passes}
use Rattle.segments.proofs.Local.{refused_not}
use Rattle.strings.specs.Table.{string_at, units_at, fetched_of, buffer_of}
use Rattle.fetch.specs.Strings.{buffer_seen}
use Rattle.string_places.specs.Places.{fetched_by}

-- ---- a string that is judged whole first
module _ (s : List ℕ) (d : Cursor) where
  none_by : (r : Refusal) (x : Got (List ℕ)) → moved (Err r) ≡ ends x → (b : List ℕ) → (fetched_by (length b) x ≡ refuse 11 0) × (buffer_seen b x ≡ b)
  none_by r (got us e) i b = absurd (refused_not i)
  none_by r (refused n o) i b = (refl, refl)

  there_by : (e : Cursor) (x : Got (List ℕ)) → moved (Ok e) ≡ ends x → (b : List ℕ) → Passes x × (fetched_by (length b) x ≡ fetched_of (length b) (list_of x)) × (buffer_seen b x ≡ buffer_of b (list_of x))
  there_by e (got us c) i b = (tt, refl, refl)
  there_by e (refused n o) i b = absurd (refused_not (sym i))

  module _ (r : Refusal) (is : moved (Err r) ≡ ends (string_at s d)) where
    pub whole_none : (b : List ℕ) → fetched_by (length b) (string_at s d) ≡ refuse 11 0
    whole_none b = (none_by r (string_at s d) is b).0

    pub buffer_none : (b : List ℕ) → buffer_seen b (string_at s d) ≡ b
    buffer_none b = (none_by r (string_at s d) is b).1

  module _ (e : Cursor) (is : moved (Ok e) ≡ ends (string_at s d)) where
    pub whole_passes : Passes (string_at s d)
    whole_passes = (there_by e (string_at s d) is []).0

    pub whole_there : (b : List ℕ) → fetched_by (length b) (string_at s d) ≡ fetched_of (length b) (units_at s d)
    whole_there b = (there_by e (string_at s d) is b).1

    pub buffer_there : (b : List ℕ) → buffer_seen b (string_at s d) ≡ buffer_of b (units_at s d)
    buffer_there b = (there_by e (string_at s d) is b).2

pub ruleset whole_laws = (whole_none, buffer_none, whole_passes, whole_there, buffer_there)

-- ---- in a record
pub in_inside : (s : List ℕ) (at p k z e : ℕ) → header_at s p ≡ Record k z e → at < e → Inside s (record { seg = p; at = at; end = e })
in_inside s at p k z e i l = let w = whole s p k z e i in (omega arith, omega arith)
