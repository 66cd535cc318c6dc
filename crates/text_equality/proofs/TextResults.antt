-- The laws of the characters of text results, with what a call gave as the proofs have it. Assumes nothing.
use Prim.Native.Nat.{ℕ, ◌+◌}
use mathlib.Core.Path.{◌≡◌, ◌∙◌, subst⁻¹}
use mathlib.Core.Bool.{true}
use mathlib.Core.List.{List}
use Rattle.byte_numbers.specs.Bytes.{byte_at, u16_at}
use Rattle.segments.specs.declared.Cursor.{Cursor}
use Rattle.segments.specs.Segments.{list_of, on, width_of, items}
use Rattle.segments.specs.Parts.{Passes}
use Rattle.text_result.specs.TextResult.{string_at}
use Rattle.text_result.proofs.Fetch.{chars}
use Rattle.text_equality.proofs.Renumbered.{items_pass, items_same}

-- ---- a string of which nothing is refused
module _ (s : List ℕ) (c : Cursor) (p : Passes (string_at s c)) (n x w : ℕ) (n-is : n ≡ x) (x-is : x ≡ u16_at s c.at) (w-is : w ≡ width_of (byte_at s (c.at + 2))) where
  pub string_passes : Passes (items 8 s true w n (on c 3))
  string_passes = items_pass 6 8 s true w n (on c 3) (subst⁻¹ Passes (λ z. items 6 s true (w-is z) ((n-is ∙ x-is) z) (on c 3)) (chars s c p).passes)

  pub string_units : list_of (items 8 s true w n (on c 3)) ≡ list_of (string_at s c)
  string_units = items_same 8 6 s true w n (on c 3) ∙ (λ z. list_of (items 6 s true (w-is z) ((n-is ∙ x-is) z) (on c 3))) ∙ (chars s c p).are
