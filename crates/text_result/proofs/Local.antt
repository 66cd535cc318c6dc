-- A text result is read from its own bytes: a stream that has the same bytes there, and no CONTINUE after them, has the same one. Assumes nothing.
use Prim.Native.Nat.{ℕ, ◌+◌, ◌-◌, ◌≤◌}
use mathlib.Core.Path.{◌≡◌, refl, sym, ap, ap₂, ◌∙◌, subst}
use mathlib.Core.List.{List}
use mathlib.Core.Bool.{Bool, true, false}
use native.Mathlib.Omega.{arith}
use lib.ListN.{length}
use lib.Dec.{ltb, eqb}
use borrow.Author.Tests.{eqb-true}
use Rattle.steps.specs.Choice.{pick}
use Rattle.steps.proofs.Choice.{never, pick_any, pick_by, pick_true, pick_false, pick_nlt}
use Rattle.byte_numbers.specs.Bytes.{byte_at, u16_at}
use Rattle.byte_numbers.proofs.Laws.{Same, num_same}
use Rattle.record.specs.declared.Header.{Header}
use Rattle.record.specs.declared.Header.TheVariants.{Record, Cut, End}
use Rattle.record.specs.Record.{header_at}
use Rattle.record.proofs.Laws.{whole, header_alike}
use Rattle.segments.specs.declared.Cursor.{Cursor}
use Rattle.segments.specs.Segments.{Got, got, refused, then, on, continues, filled, need, width_of, items}
use Rattle.segments.specs.Parts.{Inside}
use Rattle.segments.proofs.Local.{Within, refused_not, filled_got, filled_is, need_is, reads_items, continues_kept, within_items}
use Rattle.text_result.specs.TextResult.{between, past_one, string_place, is_string, start_size, string_at, body, on_string, text_at, text_of}

pub start_size_low : (s : List ℕ) (p : ℕ) → 3 ≤ start_size s p
unfolding start_size
start_size_low s p = pick_any (λ (k : ℕ). 3 ≤ k) _ (omega arith) (omega arith)

-- ---- a string that is right
pub record Right (s : List ℕ) (c : Cursor) (us : List ℕ) (d : Cursor) : Type 0 where
  pub start : start_size s c.at ≤ c.end - c.at
  pub read : items 6 s true (width_of (byte_at s (c.at + 2))) (u16_at s c.at) (on c 3) ≡ got us d
  pub full : d.at ≡ d.end
  pub alone : continues s d.end ≡ false

-- past its length and flags
pub string_starts : (s : List ℕ) (c : Cursor) → start_size s c.at ≤ c.end - c.at
    → string_at s c ≡ then (items 6 s true (width_of (byte_at s (c.at + 2))) (u16_at s c.at) (on c 3)) (λ us e. then (filled 6 s e) (λ _ i. got us i))
unfolding string_at need
string_starts s c h =
    sym (ap (λ (x : Got ℕ). then x (λ _ d. then (items 6 s true (width_of (byte_at s (d.at + 2))) (u16_at s d.at) (on d 3)) (λ us e. then (filled 6 s e) (λ _ i. got us i))))
    (pick_nlt (got (start_size s c.at) c) _ _ _ _ h refl))

module _ (s : List ℕ) (c : Cursor) (us : List ℕ) (d : Cursor) where
  string_is : Right s c us d → string_at s c ≡ got us d
  string_is r =
      string_starts s c r.start
      ∙ ap (λ (x : Got (List ℕ)). then x (λ us e. then (filled 6 s e) (λ _ i. got us i))) r.read
      ∙ ap (λ (x : Got Unit). then x (λ _ i. got us i)) (filled_got 6 s d r.full r.alone)

  abbrev RightIf : Got (List ℕ) → Type 0
  RightIf (got us d) = Right s c us d
  RightIf (refused n o) = Unit {0}

  pub right : string_at s c ≡ got us d → Right s c us d
  unfolding string_at
  right h = subst RightIf h (at_start (need 6 (start_size s c.at) c) refl)
    where
      Read : Got (List ℕ)
      Read = items 6 s true (width_of (byte_at s (c.at + 2))) (u16_at s c.at) (on c 3)

      at_end_lem : start_size s c.at ≤ c.end - c.at → (k : List ℕ) (e : Cursor) → Read ≡ got k e → (x : Got Unit) → filled 6 s e ≡ x → RightIf (then x (λ _ i. got k i))
      at_end_lem start k e q (got u g) i =
          let f = filled_is 6 s e u g i in
          subst (Right s c k) f.here (record { start = start; read = q; full = f.full; alone = f.alone })
      at_end_lem start k e q (refused n o) i = tt

      at_items : start_size s c.at ≤ c.end - c.at → (x : Got (List ℕ)) → Read ≡ x → RightIf (then x (λ us e. then (filled 6 s e) (λ _ i. got us i)))
      at_items start (got k e) q = at_end_lem start k e q (filled 6 s e) refl
      at_items start (refused n o) q = tt

      at_start : (x : Got ℕ) → need 6 (start_size s c.at) c ≡ x
          → RightIf (then x (λ _ d. then (items 6 s true (width_of (byte_at s (d.at + 2))) (u16_at s d.at) (on d 3)) (λ us e. then (filled 6 s e) (λ _ i. got us i))))
      at_start (got v e) q =
          let n = need_is 6 (start_size s c.at) c v e q in
          subst (λ (z : Cursor). RightIf (then (items 6 s true (width_of (byte_at s (z.at + 2))) (u16_at s z.at) (on z 3)) (λ us e. then (filled 6 s e) (λ _ i. got us i)))) (sym n.same)
          (at_items n.here Read refl)
      at_start (refused n o) q = tt

  -- it lies within the stream, ahead of where it starts
  pub string_within : Inside s c → string_at s c ≡ got us d → Within s c (got us d)
  string_within inside h =
      let r = right h in
      let l = start_size_low s c.at in
      let i = r.start in
      let w : Within s (on c 3) (got us d) = subst (Within s (on c 3)) r.read (within_items 6 s true (width_of (byte_at s (c.at + 2))) (u16_at s c.at) (on c 3) (omega arith, omega arith)) in
      (w.0, omega arith, w.2)

-- ---- a stream with the same bytes up to its end, and no CONTINUE there: the same string
module _ (s s' : List ℕ) (c : Cursor) (inside : Inside s c) (us : List ℕ) (d : Cursor) (is : string_at s c ≡ got us d) (same : Same s s' c.at d.end) (fits : d.end ≤ length s')
    (alone : continues s' d.end ≡ false) where
  string_same : string_at s' c ≡ got us d
  unfolding start_size
  string_same =
      let r = right s c us d is in
      let l = start_size_low s c.at in
      let i = r.start in
      let w = string_within s c us d inside is in
      let m : c.end ≤ d.end = w.2 in
      let n : u16_at s c.at ≡ u16_at s' c.at = num_same s s' 2 c.at (λ k a b. same k (omega arith) (omega arith)) in
      let f : byte_at s (c.at + 2) ≡ byte_at s' (c.at + 2) = same (c.at + 2) (omega arith) (omega arith) in
      let z : start_size s c.at ≡ start_size s' c.at = ap₂ (λ (a b : ℕ). pick (eqb a 0) 3 (3 + width_of b)) n f in
      string_is s' c us d (record {
        start = subst (λ (k : ℕ). k ≤ c.end - c.at) z r.start;
        read =
            ap₂ (λ (a b : ℕ). items 6 s' true (width_of b) a (on c 3)) (sym n) (sym f)
            ∙ (reads_items s s' c.at d.end same (λ e i j. omega arith) 6 true (width_of (byte_at s (c.at + 2))) (u16_at s c.at) (on c 3) (omega arith, omega arith) (omega arith)).kept us d r.read (omega arith);
        full = r.full;
        alone = alone;
      })

-- ---- a text result that is right: its STRING stands at p and its body ends at e
pub record Text (s : List ℕ) (p : ℕ) (us : List ℕ) (d : Cursor) : Type 0 where
  pub type : u16_at s p ≡ 0x0207
  pub kind : ℕ
  pub size : ℕ
  pub end : ℕ
  pub header : header_at s p ≡ Record kind size end
  pub string : string_at s (body p end) ≡ got us d

module _ (s : List ℕ) (f p : ℕ) (us : List ℕ) (d : Cursor) where
  abbrev TextIf : Got (List ℕ) → Type 0
  TextIf x = x ≡ got us d → Text s p us d

  string_type : is_string s p ≡ true → u16_at s p ≡ 0x0207
  unfolding is_string
  string_type h = pick_by (λ (b : Bool). b ≡ true → u16_at s p ≡ 0x0207) (ltb (length s - p) 4) (λ _ i. never (cc)) (λ _ i. eqb-true (u16_at s p) 0x0207 i) h

  text_by : is_string s p ≡ true → (h : Header) → header_at s p ≡ h → TextIf (on_string s p h)
  text_by i (Record t z e) h q = record { type = string_type i; kind = t; size = z; end = e; header = h; string = q }
  text_by i Cut h q = absurd (refused_not q)
  text_by i End h q = absurd (refused_not q)

  pub text_at_lem : text_at s f p ≡ got us d → Text s p us d
  unfolding text_at
  text_at_lem h = pick_by TextIf (is_string s p) (λ i. text_by i (header_at s p) refl) (λ _ q. absurd (refused_not q)) h

-- a stream with the same bytes from p up to its end, and no CONTINUE there
module _ (s s' : List ℕ) (f p : ℕ) (us : List ℕ) (d : Cursor) (is : text_at s f p ≡ got us d) where
  text : Text s p us d
  text = text_at_lem s f p us d is

  string_inside : Inside s (body p text.end)
  string_inside = let w = whole s p text.kind text.size text.end text.header in (omega arith, omega arith)

  -- the end of its STRING, and its own
  text_end : (p + 4 ≤ text.end) × (text.end ≤ d.end) × (d.end ≤ length s)
  text_end =
      let w = string_within s (body p text.end) us d string_inside text.string in
      let h = whole s p text.kind text.size text.end text.header in
      (omega arith, omega arith, omega arith)

  text_at_same : Same s s' p d.end → d.end ≤ length s' → continues s' d.end ≡ false → text_at s' f p ≡ got us d
  unfolding text_at is_string
  text_at_same same fits alone =
      let h = whole s p text.kind text.size text.end text.header in
      let w = text_end in
      let t : u16_at s' p ≡ 0x0207 = sym (num_same s s' 2 p (λ k a b. same k (omega arith) (omega arith))) ∙ text.type in
      sym (pick_true (got us d) _ _ _ (sym (pick_nlt true false _ (length s' - p) 4 (omega arith) (sym (ap (λ (k : ℕ). eqb k 0x0207) t))))
      (sym (ap (on_string s' p) (header_alike s s' p text.kind text.size text.end text.header (λ k a b. same k a (omega arith)) (omega arith))
      ∙ string_same s s' (body p text.end) string_inside us d text.string (λ k a b. same k (omega arith) b) fits alone)))

abbrev ends : Header → ℕ
ends (Record k z e) = e
ends Cut = 0
ends End = 0

-- where it is looked for
abbrev Placed : ℕ → ℕ → Type 0
Placed e p = e ≤ p

place_by : (s : List ℕ) (e : ℕ) (h : Header) → header_at s e ≡ h → e ≤ past_one e h
place_by s e (Record t z g) h = let w = whole s e t z g h in pick_any (Placed e) (between t) (omega arith) (omega arith)
place_by s e Cut h = omega arith
place_by s e End h = omega arith

pub place_ahead : (s : List ℕ) (e : ℕ) → e ≤ string_place s e
unfolding string_place
place_ahead s e = place_by s e (header_at s e) refl

module _ (s : List ℕ) (f e : ℕ) (us : List ℕ) (d : Cursor) (is : text_of s f e ≡ got us d) where
  -- the end of a text result is at least a header past its formula
  pub text_ahead : (e + 4 ≤ d.end) × (d.end ≤ length s)
  unfolding text_of
  text_ahead = let a = place_ahead s e in let b = text_end s s f (string_place s e) us d is in (omega arith, b.2)

  -- and no CONTINUE stands there
  pub text_alone : continues s d.end ≡ false
  unfolding text_of
  text_alone = let x = text s s f (string_place s e) us d is in (right s (body (string_place s e) x.end) us d x.string).alone

  module _ (s' : List ℕ) (same : Same s s' e d.end) (fits : d.end ≤ length s') where
    -- a whole record stands where it is looked for first: its STRING, or the one before it
    place_same : (h : Header) → header_at s e ≡ h → text_at s f (past_one e h) ≡ got us d → string_place s' e ≡ past_one e h
    unfolding string_place
    place_same (Record k z g) h i = ap (past_one e) (header_alike s s' e k z g h (λ j a b. same j a (let l = text_ahead in omega arith)) (by (between k) refl i))
      where
        by : (b : Bool) → between k ≡ b → text_at s f (pick (between k) g e) ≡ got us d → g ≤ length s'
        by true t i = let p : pick (between k) g e ≡ g = sym (pick_true g g e (between k) t refl) in let x = text_end s s f g us d (sym (ap (text_at s f) p) ∙ i) in omega arith
        by false t i =
            let p : pick (between k) g e ≡ e = sym (pick_false e g e (between k) t refl) in
            let x : text_at s f e ≡ got us d = sym (ap (text_at s f) p) ∙ i in
            let j = text s s f e us d x in
            let a = j.header in
            let o : g ≡ j.end = ap ends (sym h ∙ a) in
            let w = text_end s s f e us d x in
            omega arith
    place_same Cut h i = absurd (let j = text s s f e us d i in let a = j.header in never (cc))
    place_same End h i = absurd (let j = text s s f e us d i in let a = j.header in never (cc))

    -- a stream with the same bytes from the formula's end up to its own, and no CONTINUE there
    pub text_near : continues s' d.end ≡ false → text_of s' f e ≡ got us d
    unfolding text_of string_place
    text_near alone =
        let a = place_ahead s e in
        ap (text_at s' f) (place_same (header_at s e) refl is)
        ∙ text_at_same s s' f (string_place s e) us d is (λ k i j. same k (omega arith) j) fits alone

  -- a stream of the same length: its bytes and two more, which say that no CONTINUE stands at its end
  pub text_same : (s' : List ℕ) → length s ≡ length s' → Same s s' e (d.end + 2) → text_of s' f e ≡ got us d
  text_same s' len same =
      let w = text_ahead in
      text_near s' (λ k i j. same k i (omega arith)) (omega arith) (sym (continues_kept s s' e (d.end + 2) same len d.end (omega arith) (omega arith)) ∙ text_alone)
