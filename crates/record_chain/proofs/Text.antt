-- A text result stands in whole records, one after the other, that hold no cell, open or close no substream and are no INDEX. Assumes nothing.
use Prim.Native.Nat.{ℕ}
use mathlib.Core.Path.{◌≡◌, refl, sym, ap, ◌∙◌, subst}
use mathlib.Core.List.{List}
use mathlib.Core.Bool.{Bool, true}
use native.Mathlib.Omega.{arith}
use lib.Dec.{eqb}
use borrow.Author.Tests.{eqb-true}
use Rattle.steps.specs.Choice.{pick}
use Rattle.steps.proofs.Choice.{pick_by}
use Rattle.record.specs.declared.Header.{Header}
use Rattle.record.specs.declared.Header.TheVariants.{Record, Cut, End}
use Rattle.record.specs.Record.{header_at}
use Rattle.record.proofs.Laws.{whole}
use Rattle.cell.specs.declared.Shape.TheVariants.{OTHER}
use Rattle.cell.specs.Cells.{shape_of}
use Rattle.segments.specs.declared.Cursor.{Cursor}
use Rattle.segments.specs.Segments.{Got, got, on as onward, filled, need, items}
use Rattle.text_result.specs.TextResult.{between, past_one, string_place, start_size, string_at, body, text_at, text_of}
use Rattle.text_result.proofs.Local.{text_at_lem}
use Rattle.record_chain.specs.Chain.{Chain, here, on, Plain, Reach}
use Rattle.record_chain.proofs.Chain.{chain_trans, chain_by}
use Rattle.record_chain.proofs.Table.{Runs, runs_on, runs_then, runs_filled, runs_need, runs_items}

-- ---- the types of its records
module _ (s : List ℕ) (x t z e : ℕ) (h : header_at s x ≡ Record t z e) where
  plain_of : (k : ℕ) → t ≡ k → shape_of k ≡ OTHER → (k ≡ 0x0809 → ⊥) → (k ≡ 0x000A → ⊥) → (k ≡ 0x020B → ⊥) → Plain s x e
  plain_of k q o b f n = record { over = record { type = t; size = z; is = h }; other = ap shape_of q ∙ o; no_bof = λ i. b (sym q ∙ i); no_eof = λ i. f (sym q ∙ i); no_index = λ i. n (sym q ∙ i) }

  plain_continue : t ≡ 0x003C → Plain s x e
  unfolding shape_of pick
  plain_continue q = plain_of 0x003C q refl (λ i. omega arith) (λ i. omega arith) (λ i. omega arith)

  plain_string : t ≡ 0x0207 → Plain s x e
  unfolding shape_of pick
  plain_string q = plain_of 0x0207 q refl (λ i. omega arith) (λ i. omega arith) (λ i. omega arith)

  plain_between : between t ≡ true → Plain s x e
  unfolding between shape_of pick
  plain_between q =
      pick_by If (eqb t 0x04BC) (λ i _. plain_of 0x04BC (eqb-true t 0x04BC i) refl (λ j. omega arith) (λ j. omega arith) (λ j. omega arith))
      (λ _. pick_by If (eqb t 0x0221) (λ i _. plain_of 0x0221 (eqb-true t 0x0221 i) refl (λ j. omega arith) (λ j. omega arith) (λ j. omega arith))
      (λ _ i. plain_of 0x0236 (eqb-true t 0x0236 i) refl (λ j. omega arith) (λ j. omega arith) (λ j. omega arith))) q
    where
      If : Bool → Type 0
      If b = b ≡ true → Plain s x e

-- ---- its records
module _ (s : List ℕ) where
  continue : (x z e : ℕ) → header_at s x ≡ Record 0x003C z e → Plain s x e
  continue x z e h = plain_continue s x 0x003C z e h refl

  abbrev Ran : {A : Type 0} → Cursor → Got A → Type 0
  Ran c x = Runs s (Plain s) continue c x

  runs_string : (c : Cursor) → Ran c (string_at s c)
  unfolding string_at
  runs_string c =
      runs_then s (Plain s) continue c (need 6 (start_size s c.at) c) _ (runs_need s (Plain s) continue 6 (start_size s c.at) c) (λ v d.
      runs_then s (Plain s) continue d (items 6 s true _ _ (onward d 3)) _
      (runs_on s (Plain s) continue d (onward d 3) (items 6 s true _ _ (onward d 3)) here (runs_items s (Plain s) continue 6 true _ _ (onward d 3))) (λ us e.
      runs_then s (Plain s) continue e (filled 6 s e) _ (runs_filled s (Plain s) continue 6 e) (λ u i. here)))

  string_chain : (c : Cursor) (us : List ℕ) (d : Cursor) → string_at s c ≡ got us d → Chain (Plain s) c.end d.end
  string_chain c us d h = subst (Ran c) h (runs_string c)

  at_chain : (f p : ℕ) (us : List ℕ) (d : Cursor) → text_at s f p ≡ got us d → Chain (Plain s) p d.end
  at_chain f p us d h =
      let x = text_at_lem s f p us d h in
      let w = whole s p x.kind x.size x.end x.header in
      on (plain_string s p x.kind x.size x.end x.header (w.kind ∙ x.type)) (string_chain (body p x.end) us d x.string)

  place_chain : (p : ℕ) (h : Header) → header_at s p ≡ h → Chain (Plain s) p (past_one p h)
  place_chain p (Record t z e) h = pick_by (Chain (Plain s) p) (between t) (λ i. on (plain_between s p t z e h i) here) (λ _. here)
  place_chain p Cut h = here
  place_chain p End h = here

  -- the end of a text result is reached from the end of its formula
  pub text_chain : (f e : ℕ) (us : List ℕ) (d : Cursor) → text_of s f e ≡ got us d → Chain (Plain s) e d.end
  unfolding text_of string_place
  text_chain f e us d h = chain_trans (place_chain e (header_at s e) refl) (at_chain f (string_place s e) us d h)

  pub plain_reach : {x y : ℕ} → Chain (Plain s) x y → Reach s x y
  plain_reach q = chain_by (λ x e h. on h.over here) q
