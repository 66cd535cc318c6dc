-- After a granted correction the stream passes the check. Assumes nothing.
use Prim.Native.Nat.{ℕ, suc}
use mathlib.Core.Path.{◌≡◌, sym, ap, ◌∙◌, subst}
use mathlib.Core.List.{List, [], ◌∷◌}
use mathlib.Core.Bool.{Bool, true, false, ◌&&◌}
use lib.Dec.{eqb}
use Rattle.steps.specs.Choice.{pick}
use Rattle.steps.proofs.Choice.{never}
use Rattle.value.specs.declared.Field.{Field}
use Rattle.value.specs.declared.Field.TheVariants.{StoredResult}
use Rattle.cell.specs.declared.Cell.{Cell}
use Rattle.new_value.specs.declared.NewValue.{NewValue}
use Rattle.new_value.specs.declared.NewValue.TheVariants.{Number, Text, Truth, Error}
use Rattle.std.specs.Prelude.{Ok}
use Rattle.new_value.specs.Change.{Held, plan_of}
use Rattle.record_after.proofs.Planned.{planned}
use Rattle.globals.specs.Globals.{globals_of}
use Rattle.globals.specs.Sheets.{sheets_of}
use Rattle.workbook.specs.Check.{checked_of}
use Rattle.reading.specs.Reading.{listed_of}
use Rattle.correction.specs.Correction.{writes, cells_at, stream_after}
use Rattle.record_chain.specs.Chain.{Nth, first, next}
use Rattle.passes_after.specs.Granted.{Granted}
use Rattle.passes_after.specs.Stored.{Fits, Stored}
use Rattle.passes_after.specs.Upheld.{Upheld}
use Rattle.passes_after.proofs.Stored.{stored_globals, stored_sheets, stored_checked}
use Rattle.passes_after.proofs.Granted.{granted}

-- ---- a cell of an address is listed
pub record Place {A : Type 0} (l : List A) (x : A) : Type 0 where
  pub which : ℕ
  pub is : Nth l which x

pub at_place : (row column : ℕ) (l : List Cell) (c : Cell) (m : List Cell) → cells_at row column l ≡ c ∷ m → Place l c
unfolding cells_at pick
at_place row column [] c m h = never (cc)
at_place row column (d ∷ l) c m h = go (eqb d.row row && eqb d.column column) h (λ i. at_place row column l c m i)
  where
    go : (b : Bool) → pick b (d ∷ cells_at row column l) (cells_at row column l) ≡ c ∷ m → (cells_at row column l ≡ c ∷ m → Place l c) → Place (d ∷ l) c
    go true i rest = let q : d ≡ c = cc in record { which = 0; is = subst (λ (x : Cell). Nth (d ∷ l) 0 x) q first }
    go false i rest = let q = rest i in record { which = suc q.which; is = next q.is }

-- a formula takes no value
pub formula_takes : (v : NewValue) (u b : ℕ) → plan_of StoredResult v u ≡ Ok b → ⊥
formula_takes (Number x) u b h = never (cc)
formula_takes (Text i) u b h = never (cc)
formula_takes (Truth t) u b h = never (cc)
formula_takes (Error e) u b h = never (cc)

pub plan_plain : (f : Field) (v : NewValue) (u b : ℕ) → plan_of f v u ≡ Ok b → f ≡ StoredResult → ⊥
plan_plain f v u b h e = formula_takes v u b (ap (λ (x : Field). plan_of x v u) (sym e) ∙ h)

-- a plan's number is right in its field
pub plan_fits : (f : Field) (v : NewValue) (unique b : ℕ) → Held v → plan_of f v unique ≡ Ok b → Fits f unique b
plan_fits f v unique b held h = let y = planned f v unique b held h in record { small = y.small; right = y.right; index = y.index }

-- ---- a granted correction stores a number
module _ (s : List ℕ) (lent n row column : ℕ) (v : NewValue) (f : Field) (p b : ℕ) (held : Held v) (given : Granted s lent n row column v f p b) where
  pub stored : Stored s lent n f p b
  stored =
      let q = at_place row column (listed_of s given.sheet) given.cell [] given.only in
      let h : plan_of f v given.globals.unique ≡ Ok b = subst (λ (x : Field). plan_of x v given.globals.unique ≡ Ok b) given.kind given.plan in
      let y : Fits f given.globals.unique b = plan_fits f v given.globals.unique b held h in
      record {
        placed = record { globals = given.globals; passes = given.passes; sheet = given.sheet; nth = given.nth; cell = given.cell; which = q.which; is = q.is; kind = given.kind; field = given.field; small = y.small };
        fits = y;
        plain = plan_plain f v given.globals.unique b h;
      }

  pub globals_stay : globals_of (stream_after s (writes f p b)) lent ≡ Ok given.globals
  unfolding stored
  globals_stay = stored_globals stored.placed

  pub sheets_stay : sheets_of s ≡ sheets_of (stream_after s (writes f p b))
  sheets_stay = stored_sheets stored.placed

  pub checked_same : checked_of (stream_after s (writes f p b)) lent ≡ checked_of s lent
  checked_same = stored_checked stored

pub upheld : Upheld
upheld s lent sheets n row column v f p b held h = checked_same s lent n row column v f p b held (granted s lent sheets n row column v f p b h)
