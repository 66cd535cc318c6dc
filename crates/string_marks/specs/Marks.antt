-- What the contracts speak of.
use Rattle.std.specs.Prelude.{ℕ, ◌+◌, ◌-◌, ◌≤◌, ◌<◌, ◌≡◌, List, length, get_or}
use Rattle.std.specs.Coded.{Coded-set, coded_ℕ, ×_prop}
use mathlib.Core.HLevel.{⊥_prop}
use Rattle.byte_numbers.specs.Bytes.{u16_at}
use Rattle.segments.specs.declared.Cursor.{Cursor}
use Rattle.segments.specs.Segments.{Got, got, refused}
use Rattle.strings.specs.Table.{strings, first}
use Rattle.string_marks.specs.declared.marks.Mark.{Mark}
use Rattle.string_marks.specs.declared.table.Passed.{Passed}

-- where the segment ends whose header is at p
abbrev pub end_at : List ℕ → ℕ → ℕ
end_at s p = p + 4 + u16_at s (p + 2)

-- what was read ends at c
abbrev pub EndsAt : {A : Type 0} → Got A → Cursor → Type 0
EndsAt (got a d) c = (d.seg ≡ c.seg) × ((d.at ≡ c.at) × (d.end ≡ c.end))
EndsAt (refused n o) c = ⊥

pub EndsAt-prop : {A : Type 0} (x : Got A) (c : Cursor) → IsProp (EndsAt x c)
EndsAt-prop (got a d) c = ×_prop (Coded-set coded_ℕ d.seg c.seg) (×_prop (Coded-set coded_ℕ d.at c.at) (Coded-set coded_ℕ d.end c.end))
EndsAt-prop (refused n o) c = ⊥_prop

-- the first n strings of the table whose SST is at p end at c
unfoldable pub Reaches : List ℕ → ℕ → ℕ → Cursor → Type 0
Reaches s p n c = EndsAt (strings s n (first p (end_at s p))) c

pub Reaches-prop : (s : List ℕ) (p n : ℕ) (c : Cursor) → IsProp (Reaches s p n c)
unfolding Reaches
Reaches-prop s p n c = EndsAt-prop (strings s n (first p (end_at s p))) c

-- ---- marks, by their numbers
abbrev pub no_mark : Mark
no_mark = record { before = 0; at = 0; into = 0; link = 0 }

abbrev pub before_at : List Mark → ℕ → ℕ
before_at m j = (get_or m j no_mark).before

abbrev pub link_at : List Mark → ℕ → ℕ
link_at m j = (get_or m j no_mark).link

-- the cursor of a mark
abbrev pub segment_of : Mark → ℕ
segment_of x = x.at - (x.into + 4)

unfoldable pub cursor_of : List ℕ → Mark → Cursor
cursor_of s x = record { seg = segment_of x; at = x.at; end = end_at s (segment_of x) }

abbrev pub cursor_at : List ℕ → List Mark → ℕ → Cursor
cursor_at s m j = cursor_of s (get_or m j no_mark)

-- each mark stands where the string is next that has so many before it; the first stands before all
pub record Marked (s : List ℕ) (p : ℕ) (m : List Mark) : Type 0 where
  pub some : 0 < length m
  pub none_before : before_at m 0 ≡ 0
  pub each : (j : ℕ) → j < length m → Reaches s p (before_at m j) (cursor_at s m j)

-- the marks are the same in both but for their links
pub record Kept (m m' : List Mark) : Type 0 where
  pub size : length m' ≡ length m
  pub before : (j : ℕ) → before_at m' j ≡ before_at m j
  pub cursor : (s : List ℕ) (j : ℕ) → cursor_at s m' j ≡ cursor_at s m j

-- so many of the n strings were passed
pub record Passes (s : List ℕ) (p n : ℕ) (r : Passed) : Type 0 where
  pub few : r.count ≤ n
  pub here : Reaches s p r.count r.place

-- what a mark tells of a cursor
pub record Tells (n : ℕ) (c : Cursor) (x : Mark) : Type 0 where
  pub before : x.before ≡ n
  pub at : x.at ≡ c.at
  pub seg : segment_of x ≡ c.seg
