-- What the laws speak of. Nothing here is part of the claims.
use Rattle.std.specs.Prelude.{ℕ, ◌+◌, ◌^◌, ◌≤◌, ◌<◌, ◌≡◌, List, [], ◌∷◌, true, false, length, get_or, drop}
use Rattle.record.specs.declared.Header.TheVariants.{Record}
use Rattle.record.specs.Record.{header_at}
use Rattle.sheet_agreement.specs.Agreement.{Sheet, Bof}
use Rattle.reading.specs.Claims.{Every}
use Rattle.globals.specs.declared.Globals.{Globals}
use Rattle.globals.specs.Sheets.{sheets_of}
use Rattle.new_stream.specs.declared.Spot.{Spot}
use Rattle.new_stream.specs.Entries.{entries_from, entries_of}
use Rattle.new_stream.specs.Compact.{written, place_in, byte_in, texts_in, uses, index_in, compact_with}

-- What the laws are given: the old and the new stream, the new table, the new index of a string, what is written as the new place of a BOF, the new
-- place of every record and of every byte, and which strings are used.
pub record Given : Type 1 where
  pub s : List ℕ
  pub t : List ℕ
  pub T : List ℕ
  pub index : ℕ → ℕ
  pub place : ℕ → ℕ
  pub total : ℕ → ℕ
  pub byte : ℕ → ℕ
  pub Used : ℕ → Type 0

-- At q of the new stream stands what is written of the records of the old stream from w on.
pub record View (m : Given) (w : Spot) (q : ℕ) : Type 0 where
  pub within : q ≤ length m.t
  pub view : drop q m.t ≡ written m.s m.T m.index m.place (entries_from m.s w)
  pub counts : (p : ℕ) → w.at ≤ p → m.total p ≡ q + place_in m.T (entries_from m.s w) p
  pub bytes : (p : ℕ) → w.at ≤ p → m.byte p ≡ q + byte_in m.T (entries_from m.s w) p
  pub used : (i : ℕ) → uses (texts_in m.s (entries_from m.s w)) i ≡ true → m.Used i

-- w' is past the n bytes at w
abbrev pub Ahead : Spot → Spot → ℕ → Type 0
Ahead w w' n = (w.at < w'.at) × (w.at + n ≤ w'.at)

-- ---- what is said of sheets and BOFs, in the new stream
abbrev pub moved_bof : Given → Bof → Bof
moved_bof m b = record { start = m.total b.start; kind = b.kind }

abbrev pub moved_sheet : Given → Sheet → Sheet
moved_sheet m x = record { header = m.total x.header; position = m.place x.position; kind = x.kind }

-- each BOF has a place of its own in the new stream
abbrev pub BofsApart : Given → List Bof → Type 0
BofsApart m [] = Unit {0}
BofsApart m (b ∷ l) = Every (λ (c : Bof). m.total b.start ≡ m.total c.start → ⊥) l × BofsApart m l

-- a BOUNDSHEET in both streams: all its bytes but those of the position are the same
pub record BoundMoved (m : Given) (x : Sheet) : Type 0 where
  pub size : ℕ
  pub end : ℕ
  pub long : 8 ≤ size
  pub old : header_at m.s x.header ≡ Record 0x0085 size end
  pub new : header_at m.t (m.total x.header) ≡ Record 0x0085 size (m.total x.header + (4 + size))
  pub same : (k : ℕ) → k < 4 + size → 8 ≤ k → get_or (drop x.header m.s) k 0 ≡ get_or (drop (m.total x.header) m.t) k 0

-- what stands from a BOF on, in both streams
pub record BofViewed (m : Given) (p : ℕ) : Type 0 where
  pub kind : ℕ
  pub view : View m (record { at = p; level = 0; kind = kind; gone = false }) (m.total p)

-- ---- a stream and the new one that is made of it
abbrev pub given_of : List ℕ → List ℕ → Given
given_of s T = record {
  s = s;
  t = compact_with s T;
  T = T;
  index = index_in s T (entries_of s);
  place = place_in T (entries_of s);
  total = place_in T (entries_of s);
  byte = byte_in T (entries_of s);
  Used = λ i. uses (texts_in s (entries_of s)) i ≡ true;
}

-- what holds of them, where the old one passes with the globals g, for the unique count u' of the new one
pub record Made (s T : List ℕ) (g : Globals) (u' : ℕ) : Type 0 where
  pub fresh : (i : ℕ) → uses (texts_in s (entries_of s)) i ≡ true → i < g.unique → index_in s T (entries_of s) i < u'
  pub small : u' ≤ 256 ^ 4
  pub views : Every (λ (x : Sheet). BofViewed (given_of s T) x.position) (sheets_of s)
  pub bounds : Every (BoundMoved (given_of s T)) (sheets_of s)
