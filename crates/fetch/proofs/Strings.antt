-- The strings one after the other: the laws of a step. Assumes nothing.
use Prim.Native.Nat.{ℕ, ◌+◌, ◌≤◌, ◌<◌}
use mathlib.Core.Path.{◌≡◌, refl, sym, ap, ◌∙◌}
use mathlib.Core.List.{List}
use native.Mathlib.Omega.{arith}
use lib.ListN.{length}
use Rattle.std.specs.Prelude.{None, Result, Ok, Err}
use Rattle.steps.proofs.Choice.{pick_eq, pick_ne, pick_nlt}
use Rattle.byte_numbers.specs.Bytes.{u16_at}
use Rattle.refusal.specs.declared.Refusal.{Refusal}
use Rattle.segments.specs.declared.Cursor.{Cursor}
use Rattle.segments.specs.Segments.{Got, got, refused, list_of}
use Rattle.segments.specs.Parts.{ends, moved, Passes}
use Rattle.segments.proofs.Local.{refused_not}
use Rattle.strings.specs.Table.{string_at, units_at, first, nowhere}
use Rattle.strings.specs.Parts.{next_string}
use Rattle.fetch.specs.Strings.{first_of, text_at, next_seen, buffer_seen}

-- ---- the first place
module _ (s : List ℕ) (p : ℕ) where
  pub first_none : p ≡ 0 → first_of s p ≡ nowhere
  unfolding first_of
  first_none h = sym (pick_eq _ _ _ _ _ h refl)

  pub first_there : 0 < p → p + 12 ≤ length s → p + 4 + u16_at s (p + 2) ≤ length s → first_of s p ≡ first p (p + 4 + u16_at s (p + 2))
  unfolding first_of
  first_there some long whole = sym (pick_ne _ _ _ p 0 (λ i. omega arith) (pick_nlt _ _ _ (length s) (p + 12) long (pick_nlt _ _ _ (length s) (p + 4 + u16_at s (p + 2)) whole refl)))

-- ---- a string, where it is whole
module _ (s : List ℕ) (d : Cursor) (m : Result Cursor Refusal) (is : moved m ≡ ends (string_at s d)) where
  module _ (b : List ℕ) (n : ℕ) (r : Refusal) (h : m ≡ Err r) where
    not_whole : (x : Got (List ℕ)) → moved m ≡ ends x → (next_seen n x ≡ Ok None) × (buffer_seen b x ≡ b)
    not_whole (got us e) i = absurd (refused_not (ap moved (sym h) ∙ i))
    not_whole (refused a o) i = (refl, refl)

    pub string_none : next_seen n (string_at s d) ≡ Ok None
    string_none = (not_whole (string_at s d) is).0

    pub buffer_none : buffer_seen b (string_at s d) ≡ b
    buffer_none = (not_whole (string_at s d) is).1

  module _ (e : Cursor) (h : m ≡ Ok e) where
    passes_by : (x : Got (List ℕ)) → moved m ≡ ends x → Passes x
    passes_by (got us c) i = tt
    passes_by (refused n o) i = refused_not (sym i ∙ ap moved h)

    pub string_passes : Passes (string_at s d)
    string_passes = passes_by (string_at s d) is

    passed_by : (x : Got (List ℕ)) → moved m ≡ ends x → x ≡ got (list_of x) e
    passed_by (got us c) i = let j : ◌≡◌ {A = Cursor} c e = (let k : ◌≡◌ {A = Got Unit} (got tt c) (got tt e) = sym i ∙ ap moved h in cc) in ap (got us) j
    passed_by (refused n o) i = absurd (refused_not (sym i ∙ ap moved h))

    pub string_there : string_at s d ≡ got (units_at s d) e
    string_there = passed_by (string_at s d) is

pub ruleset string_laws = (string_none, buffer_none, string_passes, string_there)

-- ---- a step
pub text_is : (s : List ℕ) (c : Cursor) → c.end ≤ length s → c.at ≤ c.end → text_at s c ≡ next_string s c
unfolding text_at
text_is s c within order = sym (pick_nlt _ _ _ _ _ within (pick_nlt _ _ _ _ _ order refl))
