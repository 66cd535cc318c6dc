-- Where the numbers of a journal stand: what is stored is read again, and all else stays. Assumes nothing.
use Prim.Native.Nat.{ℕ, zero, suc, ◌+◌, ◌*◌, ◌^◌, ◌≤◌, ◌<◌}
use mathlib.Core.Path.{◌≡◌, refl, sym, ◌∙◌}
use mathlib.Core.List.{List}
use mathlib.Core.Bool.{true, false}
use mathlib.Core.Logic.{◌⊎◌, inl, inr}
use native.Mathlib.Omega.{arith}
use lib.ListN.{length}
use lib.Seq.{length-sets}
use Rattle.steps.proofs.Choice.{pick_true, pick_eq, pick_nlt}
use Rattle.byte_numbers.specs.Bytes.{num_at, u32_at, bytes_of}
use Rattle.byte_numbers.proofs.Laws.{num_same, num_stored, stored_other}
use Rattle.journal.specs.declared.Entry.{Entry}
use Rattle.journal.specs.Entries.{put, header, count_in, entry_at, entry_in, entered, fits_at, entries_fit, journal_fits, logged}
use Rattle.journal.specs.EntryParts.{Room}
use Rattle.journal_claims.specs.Replayed.{Small, Well}

-- ---- one number
module _ (j : List ℕ) (q w n : ℕ) where
  pub put_length : length (put q w n j) ≡ length j
  put_length = length-sets j q (bytes_of w n)

  pub put_here : q + w ≤ length j → n < 256 ^ w → num_at (put q w n j) w q ≡ n
  put_here h l = num_stored w n j q h l

  pub put_else : (v p : ℕ) → (p + v ≤ q) ⊎ (q + w ≤ p) → num_at (put q w n j) v p ≡ num_at j v p
  put_else v p h = num_same (put q w n j) j v p (λ k a b. stored_other w n j q k (side k a b h))
    where
      side : (k : ℕ) → p ≤ k → k < p + v → (p + v ≤ q) ⊎ (q + w ≤ p) → (k < q) ⊎ (q + w ≤ k)
      side k a b (inl l) = inl (omega arith)
      side k a b (inr l) = inr (omega arith)

-- ---- an entry
module _ (j : List ℕ) (e : ℕ) (x : Entry) where
  abbrev j₁ : List ℕ
  j₁ = put e 4 x.sheet j

  abbrev j₂ : List ℕ
  j₂ = put (e + 4) 2 x.row j₁

  abbrev j₃ : List ℕ
  j₃ = put (e + 6) 2 x.column j₂

  abbrev j₄ : List ℕ
  j₄ = put (e + 8) 2 x.kind j₃

  abbrev j₅ : List ℕ
  j₅ = put (e + 10) 2 x.width j₄

  abbrev j₆ : List ℕ
  j₆ = put (e + 12) 8 x.old j₅

  abbrev j₇ : List ℕ
  j₇ = put (e + 20) 8 x.new j₆

  len₁ : length j₁ ≡ length j
  len₁ = put_length j e 4 x.sheet

  len₂ : length j₂ ≡ length j
  len₂ = put_length j₁ (e + 4) 2 x.row ∙ len₁

  len₃ : length j₃ ≡ length j
  len₃ = put_length j₂ (e + 6) 2 x.column ∙ len₂

  len₄ : length j₄ ≡ length j
  len₄ = put_length j₃ (e + 8) 2 x.kind ∙ len₃

  len₅ : length j₅ ≡ length j
  len₅ = put_length j₄ (e + 10) 2 x.width ∙ len₄

  len₆ : length j₆ ≡ length j
  len₆ = put_length j₅ (e + 12) 8 x.old ∙ len₅

  pub entered_length : length (entered e x j) ≡ length j
  unfolding entered
  entered_length = put_length j₆ (e + 20) 8 x.new ∙ len₆

  -- what stands before a number is as it was when that was written
  module _ (v p : ℕ) where
    since₆ : p + v ≤ e + 20 → num_at j₇ v p ≡ num_at j₆ v p
    since₆ h = put_else j₆ (e + 20) 8 x.new v p (inl h)

    since₅ : p + v ≤ e + 12 → num_at j₇ v p ≡ num_at j₅ v p
    since₅ h = since₆ (omega arith) ∙ put_else j₅ (e + 12) 8 x.old v p (inl h)

    since₄ : p + v ≤ e + 10 → num_at j₇ v p ≡ num_at j₄ v p
    since₄ h = since₅ (omega arith) ∙ put_else j₄ (e + 10) 2 x.width v p (inl h)

    since₃ : p + v ≤ e + 8 → num_at j₇ v p ≡ num_at j₃ v p
    since₃ h = since₄ (omega arith) ∙ put_else j₃ (e + 8) 2 x.kind v p (inl h)

    since₂ : p + v ≤ e + 6 → num_at j₇ v p ≡ num_at j₂ v p
    since₂ h = since₃ (omega arith) ∙ put_else j₂ (e + 6) 2 x.column v p (inl h)

    since₁ : p + v ≤ e + 4 → num_at j₇ v p ≡ num_at j₁ v p
    since₁ h = since₂ (omega arith) ∙ put_else j₁ (e + 4) 2 x.row v p (inl h)

  pub entered_else : (v p : ℕ) → (p + v ≤ e) ⊎ (e + 28 ≤ p) → num_at (entered e x j) v p ≡ num_at j v p
  unfolding entered
  entered_else v p (inl h) = since₁ v p (omega arith) ∙ put_else j e 4 x.sheet v p (inl h)
  entered_else v p (inr h) =
      put_else j₆ (e + 20) 8 x.new v p (inr (omega arith))
      ∙ put_else j₅ (e + 12) 8 x.old v p (inr (omega arith))
      ∙ put_else j₄ (e + 10) 2 x.width v p (inr (omega arith))
      ∙ put_else j₃ (e + 8) 2 x.kind v p (inr (omega arith))
      ∙ put_else j₂ (e + 6) 2 x.column v p (inr (omega arith))
      ∙ put_else j₁ (e + 4) 2 x.row v p (inr (omega arith))
      ∙ put_else j e 4 x.sheet v p (inr (omega arith))

  module _ (room : e + 28 ≤ length j) (small : Small x) where
    read_sheet : num_at j₇ 4 e ≡ x.sheet
    read_sheet = since₁ 4 e (omega arith) ∙ put_here j e 4 x.sheet (omega arith) small.sheet

    read_row : num_at j₇ 2 (e + 4) ≡ x.row
    read_row = since₂ 2 (e + 4) (omega arith) ∙ put_here j₁ (e + 4) 2 x.row (let l = len₁ in omega arith) small.row

    read_column : num_at j₇ 2 (e + 6) ≡ x.column
    read_column = since₃ 2 (e + 6) (omega arith) ∙ put_here j₂ (e + 6) 2 x.column (let l = len₂ in omega arith) small.column

    read_kind : num_at j₇ 2 (e + 8) ≡ x.kind
    read_kind = since₄ 2 (e + 8) (omega arith) ∙ put_here j₃ (e + 8) 2 x.kind (let l = len₃ in omega arith) small.kind

    read_width : num_at j₇ 2 (e + 10) ≡ x.width
    read_width = since₅ 2 (e + 10) (omega arith) ∙ put_here j₄ (e + 10) 2 x.width (let l = len₄ in omega arith) small.width

    read_old : num_at j₇ 8 (e + 12) ≡ x.old
    read_old = since₆ 8 (e + 12) (omega arith) ∙ put_here j₅ (e + 12) 8 x.old (let l = len₅ in omega arith) small.old

    read_new : num_at j₇ 8 (e + 20) ≡ x.new
    read_new = put_here j₆ (e + 20) 8 x.new (let l = len₆ in omega arith) small.new

    pub entered_in : entry_in (entered e x j) e ≡ x
    unfolding entry_in entered
    entered_in = λ k. record { sheet = read_sheet k; row = read_row k; column = read_column k; kind = read_kind k; width = read_width k; old = read_old k; new = read_new k }

-- ---- one entry more
module _ (j : List ℕ) (x : Entry) (room : Room j) where
  abbrev c : ℕ
  c = count_in j

  abbrev j' : List ℕ
  j' = logged x j

  pub logged_length : length j' ≡ length j
  unfolding logged
  logged_length = put_length (entered (entry_at c) x j) 0 4 (c + 1) ∙ entered_length j (entry_at c) x

  pub logged_count : count_in j' ≡ c + 1
  unfolding logged
  logged_count =
      let l = entered_length j (entry_at c) x in
      let r = room.least in
      let k = room.count in
      put_here (entered (entry_at c) x j) 0 4 (c + 1) (omega arith) (omega arith)

  -- what stands after the count and before the entry
  pub logged_else : (v p : ℕ) → 4 ≤ p → p + v ≤ entry_at c → num_at j' v p ≡ num_at j v p
  unfolding logged
  logged_else v p l h = put_else (entered (entry_at c) x j) 0 4 (c + 1) v p (inr (omega arith)) ∙ entered_else j (entry_at c) x v p (inl h)

  logged_past : (v p : ℕ) → 4 ≤ p → num_at j' v p ≡ num_at (entered (entry_at c) x j) v p
  unfolding logged
  logged_past v p l = put_else (entered (entry_at c) x j) 0 4 (c + 1) v p (inr (omega arith))

  entry_same : (y z : List ℕ) (e : ℕ) → ((v p : ℕ) → e ≤ p → p + v ≤ e + 28 → num_at y v p ≡ num_at z v p) → entry_in y e ≡ entry_in z e
  unfolding entry_in
  entry_same y z e h = λ k. record { sheet = h 4 e (omega arith) (omega arith) k; row = h 2 (e + 4) (omega arith) (omega arith) k; column = h 2 (e + 6) (omega arith) (omega arith) k; kind = h 2 (e + 8) (omega arith) (omega arith) k; width = h 2 (e + 10) (omega arith) (omega arith) k; old = h 8 (e + 12) (omega arith) (omega arith) k; new = h 8 (e + 20) (omega arith) (omega arith) k }

  pub logged_in : Small x → entry_in j' (entry_at c) ≡ x
  logged_in small =
      let r = room.entry in
      entry_same j' (entered (entry_at c) x j) (entry_at c) (λ v p l h. logged_past v p (omega arith)) ∙ entered_in j (entry_at c) x (omega arith) small

  pub logged_entry : (i : ℕ) → i < c → entry_in j' (entry_at i) ≡ entry_in j (entry_at i)
  logged_entry i l = entry_same j' j (entry_at i) (λ v p a b. logged_else v p (omega arith) (omega arith))

-- ---- the form
pub fits_well : (j : List ℕ) (e : ℕ) → Well (entry_in j e) → fits_at j e ≡ true
unfolding fits_at entry_in
fits_well j e h = h

each_fits : (j : List ℕ) (n e : ℕ) → ((i : ℕ) → i < n → Well (entry_in j (e + i * 28))) → entries_fit j e n ≡ true
unfolding entries_fit
each_fits j zero e h = refl
each_fits j (suc n) e h =
    let z : e + 0 * 28 ≡ e = omega arith in
    sym (pick_true true (entries_fit j (e + 28) n) false (fits_at j e) (fits_well j e (rw z at (h 0 (omega arith))))
    (sym (each_fits j n (e + 28) (λ i l. let q : e + suc i * 28 ≡ e + 28 + i * 28 = omega arith in rw q at (h (suc i) (omega arith))))))

-- a well-formed journal for a stream of this length and unique count
pub record Formed (j : List ℕ) (len unique : ℕ) : Type 0 where
  pub long : 16 ≤ length j
  pub offset : u32_at j 4 ≡ 16
  pub stream : u32_at j 8 ≡ len
  pub strings : u32_at j 12 ≡ unique
  pub count : count_in j < 4294967296
  pub whole : entry_at (count_in j) ≤ length j
  pub each : (i : ℕ) → i < count_in j → Well (entry_in j (entry_at i))

pub formed_fits : (j : List ℕ) (len unique : ℕ) → Formed j len unique → journal_fits j len unique ≡ true
unfolding journal_fits
formed_fits j len unique f =
    sym (pick_nlt _ _ _ (length j) 16 f.long (pick_eq _ _ _ (u32_at j 4) 16 f.offset (pick_eq _ _ _ (u32_at j 8) len f.stream (pick_eq _ _ _ (u32_at j 12) unique f.strings
    (pick_nlt _ _ _ (length j) (entry_at (count_in j)) f.whole (sym (each_fits j (count_in j) 16 f.each)))))))

-- ---- a started journal
module _ (j : List ℕ) (len unique : ℕ) (room : 16 ≤ length j) (l : len < 4294967296) (u : unique < 4294967296) where
  abbrev h₁ : List ℕ
  h₁ = put 0 4 0 j

  abbrev h₂ : List ℕ
  h₂ = put 4 4 16 h₁

  abbrev h₃ : List ℕ
  h₃ = put 8 4 len h₂

  abbrev h₄ : List ℕ
  h₄ = put 12 4 unique h₃

  long₁ : 16 ≤ length h₁
  long₁ = let a = put_length j 0 4 0 in omega arith

  long₂ : 16 ≤ length h₂
  long₂ = let a = put_length h₁ 4 4 16 in let b = long₁ in omega arith

  long₃ : 16 ≤ length h₃
  long₃ = let a = put_length h₂ 8 4 len in let b = long₂ in omega arith

  long₄ : 16 ≤ length h₄
  long₄ = let a = put_length h₃ 12 4 unique in let b = long₃ in omega arith

  pub started_count : count_in (header len unique j) ≡ 0
  unfolding header
  started_count =
      put_else h₃ 12 4 unique 4 0 (inl (omega arith)) ∙ put_else h₂ 8 4 len 4 0 (inl (omega arith)) ∙ put_else h₁ 4 4 16 4 0 (inl (omega arith)) ∙ put_here j 0 4 0 (omega arith) (omega arith)

  read_offset : u32_at h₄ 4 ≡ 16
  read_offset =
      put_else h₃ 12 4 unique 4 4 (inl (omega arith)) ∙ put_else h₂ 8 4 len 4 4 (inl (omega arith)) ∙ put_here h₁ 4 4 16 (let a = long₁ in omega arith) (omega arith)

  read_stream : u32_at h₄ 8 ≡ len
  read_stream = put_else h₃ 12 4 unique 4 8 (inl (omega arith)) ∙ put_here h₂ 8 4 len (let a = long₂ in omega arith) (omega arith)

  read_strings : u32_at h₄ 12 ≡ unique
  read_strings = put_here h₃ 12 4 unique (let a = long₃ in omega arith) (omega arith)

  pub started_formed : Formed (header len unique j) len unique
  unfolding header
  started_formed =
      let z = started_count in
      record { long = long₄; offset = read_offset; stream = read_stream; strings = read_strings; count = omega arith; whole = let a = long₄ in omega arith; each = λ i k. absurd (omega arith) }
