-- The number that a break gets changes nothing of what is read. Assumes nothing.
use Prim.Native.Nat.{ℕ, zero, suc, ◌+◌, ◌-◌}
use mathlib.Core.Path.{◌≡◌, refl, ◌∙◌}
use mathlib.Core.Bool.{Bool, true, false}
use mathlib.Core.List.{List, ◌∷◌}
use lib.Dec.{ltb, eqb}
use Rattle.steps.specs.Choice.{pick}
use Rattle.steps.proofs.Choice.{never}
use Rattle.byte_numbers.specs.Bytes.{byte_at, num_at}
use Rattle.record.specs.declared.Header.{Header}
use Rattle.record.specs.declared.Header.TheVariants.{Record, Cut, End}
use Rattle.record.specs.Record.{header_at}
use Rattle.segments.specs.declared.Cursor.{Cursor}
use Rattle.segments.specs.Segments.{Got, got, refused, then, push, list_of, on, continues, segment_of, next_segment, need, width_of, enter, room, items}
use Rattle.segments.specs.Parts.{Passes}

-- what was read, whatever a refusal says
abbrev read : {A : Type 0} → Got A → Got A
read (got a c) = got a c
read (refused n o) = refused 0 0

read_pick : {A : Type 0} (t : Bool) (x y x' y' : Got A) → read x ≡ read x' → read y ≡ read y' → read (pick t x y) ≡ read (pick t x' y')
unfolding pick
read_pick true x y x' y' h i = h
read_pick false x y x' y' h i = i

read_then : {A B : Type 0} (x y : Got A) (k l : A → Cursor → Got B) → read x ≡ read y → ((a : A) (c : Cursor) → read (k a c) ≡ read (l a c)) → read (then x k) ≡ read (then y l)
read_then (got a c) (got b d) k l h i = i a c ∙ (let p : a ≡ b = cc in let q : c ≡ d = cc in λ z. read (l (p z) (q z)))
read_then (got a c) (refused n o) k l h i = never (cc)
read_then (refused n o) (got b d) k l h i = never (cc)
read_then (refused n o) (refused m p) k l h i = refl

read_push : {A : Type 0} (a : A) (x y : Got (List A)) → read x ≡ read y → read (push a x) ≡ read (push a y)
read_push a (got l c) (got m d) h = let p : l ≡ m = cc in let q : c ≡ d = cc in λ z. got (a ∷ p z) (q z)
read_push a (got l c) (refused n o) h = never (cc)
read_push a (refused n o) (got m d) h = never (cc)
read_push a (refused n o) (refused m p) h = refl

module _ (n m : ℕ) (s : List ℕ) where
  read_segment : (p : ℕ) (h : Header) → read (segment_of n p h) ≡ read (segment_of m p h)
  read_segment p (Record k z e) = read_pick (eqb z 0) (refused n p) (got tt (record { seg = p; at = p + 4; end = e })) (refused m p) (got tt (record { seg = p; at = p + 4; end = e })) refl refl
  read_segment p Cut = refl
  read_segment p End = refl

  read_next : (c : Cursor) → read (next_segment n s c) ≡ read (next_segment m s c)
  unfolding next_segment
  read_next c = read_pick (continues s c.end) (segment_of n c.end (header_at s c.end)) (refused n c.seg) (segment_of m c.end (header_at s c.end)) (refused m c.seg) (read_segment c.end (header_at s c.end)) refl

  read_need : (w : ℕ) (c : Cursor) → read (need n w c) ≡ read (need m w c)
  unfolding need
  read_need w c = read_pick (ltb (c.end - c.at) w) (refused n c.seg) (got w c) (refused m c.seg) (got w c) refl refl

  read_enter : (f : Bool) (w : ℕ) (c : Cursor) → read (enter n s f w c) ≡ read (enter m s f w c)
  read_enter true w c = read_need (width_of (byte_at s c.at)) (on c 1)
  read_enter false w c = read_need w c

  read_room : (f : Bool) (w : ℕ) (c : Cursor) → read (room n s f w c) ≡ read (room m s f w c)
  unfolding room
  read_room f w c =
      read_pick (eqb c.at c.end) (then (next_segment n s c) (λ _ d. enter n s f w d)) (need n w c) (then (next_segment m s c) (λ _ d. enter m s f w d)) (need m w c)
      (read_then (next_segment n s c) (next_segment m s c) (λ _ d. enter n s f w d) (λ _ d. enter m s f w d) (read_next c) (λ _ d. read_enter f w d)) (read_need w c)

  read_items : (f : Bool) (w k : ℕ) (c : Cursor) → read (items n s f w k c) ≡ read (items m s f w k c)
  unfolding items
  read_items f w zero c = refl
  read_items f w (suc k) c =
      read_then (room n s f w c) (room m s f w c) (λ v d. push (num_at s v d.at) (items n s f v k (on d v))) (λ v d. push (num_at s v d.at) (items m s f v k (on d v))) (read_room f w c)
      (λ v d. read_push (num_at s v d.at) (items n s f v k (on d v)) (items m s f v k (on d v)) (read_items f v k (on d v)))

passes_by : (x y : Got (List ℕ)) → read x ≡ read y → Passes x → Passes y
passes_by (got a c) (got b d) h p = tt
passes_by (got a c) (refused n o) h p = never (cc)
passes_by (refused n o) y h p = absurd p

list_by : (x y : Got (List ℕ)) → read x ≡ read y → list_of x ≡ list_of y
list_by (got a c) (got b d) h = cc
list_by (got a c) (refused n o) h = never (cc)
list_by (refused n o) (got b d) h = never (cc)
list_by (refused n o) (refused m p) h = refl

pub items_pass : (n m : ℕ) (s : List ℕ) (f : Bool) (w k : ℕ) (c : Cursor) → Passes (items n s f w k c) → Passes (items m s f w k c)
items_pass n m s f w k c p = passes_by (items n s f w k c) (items m s f w k c) (read_items n m s f w k c) p

pub items_same : (n m : ℕ) (s : List ℕ) (f : Bool) (w k : ℕ) (c : Cursor) → list_of (items n s f w k c) ≡ list_of (items m s f w k c)
items_same n m s f w k c = list_by (items n s f w k c) (items m s f w k c) (read_items n m s f w k c)
