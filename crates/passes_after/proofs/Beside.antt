-- Two streams that differ inside one record, past its first four bytes of body, agree at each place beside it. Assumes nothing.
use Prim.Native.Nat.{ℕ, ◌+◌, ◌*◌, ◌≤◌}
use mathlib.Core.Path.{◌≡◌, sym, ap, ◌∙◌, subst}
use mathlib.Core.List.{List}
use mathlib.Core.Logic.{◌⊎◌, inl, inr}
use mathlib.Core.Bool.{true}
use native.Mathlib.Omega.{arith}
use lib.ListN.{length, get_or, drop}
use Rattle.byte_numbers.specs.Bytes.{byte_at, num_at}
use Rattle.byte_numbers.proofs.Laws.{Same}
use Rattle.record.specs.declared.Header.{Header}
use Rattle.record.specs.declared.Header.TheVariants.{Record}
use Rattle.record.specs.Record.{header_at}
use Rattle.record.proofs.Laws.{whole}
use Rattle.cell.specs.declared.Shape.TheVariants.{OTHER}
use Rattle.cell.specs.Cells.{shape_of}
use Rattle.segments.specs.declared.Cursor.{Cursor}
use Rattle.segments.specs.Segments.{got}
use Rattle.text_result.specs.TextResult.{text_of}
use Rattle.text_result.proofs.Local.{text_same}
use Rattle.substream.specs.declared.Here.{Here}
use Rattle.substream.specs.Substream.{record_in, on_header, step_of}
use Rattle.globals.specs.Sheets.{sheets_from}
use Rattle.top_level.specs.TopLevel.{all_zero}
use Rattle.record_chain.specs.Chain.{here, on, Over, Beside}
use Rattle.record_chain.proofs.Chain.{over, reach_ahead, beside_cases, beside_past, plain_beside}
use Rattle.record_chain.proofs.Text.{text_chain}
use Rattle.passes_after.specs.Local.{Moves, Agreeing}
use Rattle.passes_after.proofs.Steps.{step_from, record_local}
use Rattle.passes_after.proofs.Zeros.{zeros_from, zeros_to}
use Rattle.passes_after.proofs.Sheets.{sheets_same}

module _ (s s' : List ℕ) (len : length s ≡ length s') (a t z e : ℕ) (is : header_at s a ≡ Record t z e)
    (before : Same s s' 0 (a + 8)) (after : (j : ℕ) → e ≤ j → get_or s j 0 ≡ get_or s' j 0) where
  abbrev P : ℕ → Type 0
  P = Beside s a e

  -- the first eight bytes at each place beside it
  pub beside_head : (x : ℕ) → P x → Same s s' x (x + 8)
  beside_head x (inl here) j i l = before j (omega arith) (omega arith)
  beside_head x (inl (on {e = f} h q)) j i l =
      let w = whole s x h.type h.size f h.is in
      let m = reach_ahead s q in
      before j (omega arith) (omega arith)
  beside_head x (inr m) j i l = after j (omega arith)

  -- and all of a record that ends before it or starts past it
  pub apart_same : (x f : ℕ) → (f ≤ a) ⊎ (e ≤ x) → Same s s' x f
  apart_same x f (inl m) j i l = before j (omega arith) (omega arith)
  apart_same x f (inr m) j i l = after j (omega arith)

  pub beside_keep : (x f : ℕ) → P x → Over s x f → P f
  beside_keep = beside_past s a e (over s is)

  pub beside_sheets : (t ≡ 0x0085 → ⊥) → (x : ℕ) → P x → sheets_from s x ≡ sheets_from s' x
  beside_sheets n = sheets_same s s' len P beside_keep (λ x p j i l. beside_head x p j i (omega arith)) (λ x z₁ f p h. by x z₁ f h (beside_cases s a e (over s is) x f p (over s h)))
    where
      by : (x z₁ f : ℕ) → header_at s x ≡ Record 0x0085 z₁ f → (x ≡ a) ⊎ ((f ≤ a) ⊎ (e ≤ x)) → Same s s' x f
      by x z₁ f h (inl q) = let i : header_at s x ≡ header_at s a = ap (header_at s) q in let m : t ≡ 0x0085 = cc in absurd (n m)
      by x z₁ f h (inr o) = apart_same x f o

  beside_zeros : (t ≡ 0 → ⊥) → (x : ℕ) → P x → all_zero (drop x s) ≡ true → all_zero (drop x s') ≡ true
  unfolding num_at
  beside_zeros n x (inl q) h =
      let w = whole s a t z e is in
      let m = reach_ahead s q in
      let c : byte_at s a ≡ 0 = zeros_from s x h a (omega arith) in
      let d : byte_at s (a + 1) ≡ 0 = zeros_from s x h (a + 1) (omega arith) in
      let y : t ≡ byte_at s a + 256 * (byte_at s (a + 1) + 256 * 0) = w.kind in
      absurd (n (omega arith))
  beside_zeros n x (inr m) h = zeros_to s' x (λ k i. sym (after k (omega arith)) ∙ zeros_from s x h k i)

  -- the record itself holds cells, and each step there that goes on is the same
  module _ (u : ℕ) (cells : shape_of t ≡ OTHER → ⊥) (kept : (k : ℕ) (v : Here) → v.at ≡ a → Moves (record_in s k u v t z e) → record_in s k u v t z e ≡ record_in s' k u v t z e) where
    moves_record : (k : ℕ) (v : Here) (t₁ z₁ f : ℕ) → header_at s v.at ≡ Record t₁ z₁ f → Moves (step_of s k u v) → Moves (record_in s k u v t₁ z₁ f)
    unfolding step_of
    moves_record k v t₁ z₁ f h m = subst (λ (x : Header). Moves (on_header s k u v x)) h m

    kept_here : (k : ℕ) (v : Here) (t₁ z₁ f : ℕ) → v.at ≡ a → header_at s v.at ≡ Record t₁ z₁ f → Moves (record_in s k u v t₁ z₁ f) → record_in s k u v t₁ z₁ f ≡ record_in s' k u v t₁ z₁ f
    kept_here k v t₁ z₁ f q h m =
        let i : header_at s v.at ≡ header_at s a = ap (header_at s) q in
        let p₁ : t₁ ≡ t = cc in
        let p₂ : z₁ ≡ z = cc in
        let p₃ : f ≡ e = cc in
        rw (p₁, p₂, p₃) (kept k v q (rw (p₁, p₂, p₃) at m))

    -- a text result beside it lies beside it whole
    text_apart : (x f : ℕ) → P f → (us : List ℕ) (d : Cursor) → text_of s x f ≡ got us d → text_of s' x f ≡ got us d
    text_apart x f p us d i = text_same s x f us d i s' len (by (plain_beside s a t z e is cells p (text_chain s x f us d i)))
      where
        by : (d.end ≤ a) ⊎ (e ≤ f) → Same s s' f (d.end + 2)
        by (inl m) j l n = before j (omega arith) (omega arith)
        by (inr m) j l n = after j (omega arith)

    step_same : (k : ℕ) (v : Here) → P v.at → Moves (step_of s k u v) → step_of s k u v ≡ step_of s' k u v
    step_same k v p m =
        step_from s s' len k u v (λ j i l. beside_head v.at p j i (omega arith))
        (λ t₁ z₁ f h. by t₁ z₁ f h (beside_cases s a e (over s is) v.at f p (over s h)))
      where
        by : (t₁ z₁ f : ℕ) → header_at s v.at ≡ Record t₁ z₁ f → (v.at ≡ a) ⊎ ((f ≤ a) ⊎ (e ≤ v.at)) → record_in s k u v t₁ z₁ f ≡ record_in s' k u v t₁ z₁ f
        by t₁ z₁ f h (inl q) = kept_here k v t₁ z₁ f q h (moves_record k v t₁ z₁ f h m)
        by t₁ z₁ f h (inr o) =
            record_local s s' k u v t₁ z₁ f (whole s v.at t₁ z₁ f h).end (apart_same v.at f o)
            (λ _ _. text_apart v.at f (beside_keep v.at f p (over s h))) (moves_record k v t₁ z₁ f h m)

    pub beside_agrees : (t ≡ 0 → ⊥) → Agreeing s s' u (Beside s a e)
    beside_agrees n = record { len = len; keep = beside_keep; head = beside_head; step = step_same; zeros = beside_zeros n }
