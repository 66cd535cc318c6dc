-- What the contracts of the inner functions speak of.
use Rattle.std.specs.Prelude.{ℕ, ◌-◌, ◌≤◌, ◌≡◌, List, Result, Ok, Err}
use Rattle.refusal.specs.declared.Refusal.{Refusal}
use Rattle.segments.specs.declared.Cursor.{Cursor}
use Rattle.segments.specs.Segments.{Got, got, refused, then, on}
use Rattle.segments.specs.Parts.{ends}
use Rattle.strings.specs.declared.Head.{Head}
use Rattle.strings.specs.declared.HeadRead.{HeadRead}
use Rattle.strings.specs.Table.{string_at, next_place}

-- the answer of `string_head` in the definitions' terms
abbrev pub head_read : Result HeadRead Refusal → Got Head
head_read (Ok r) = got r.head r.chars
head_read (Err r) = refused r.number r.offset

-- the next string, wherever its head stands
unfoldable pub next_string : List ℕ → Cursor → Got (List ℕ)
next_string s c = then (next_place s c) (λ _ d. string_at s d)

-- the next string has n bytes, all in this segment
pub record Plain (s : List ℕ) (c : Cursor) (n : ℕ) : Type 0 where
  pub within : n ≤ c.end - c.at
  pub next : got tt (on c n) ≡ ends (next_string s c)
