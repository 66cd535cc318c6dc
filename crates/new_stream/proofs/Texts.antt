-- The records of a text result stay, side by side: the new stream shows them one after the other, and what comes after them. Assumes nothing.
use Prim.Native.Nat.{ℕ, ◌+◌, ◌-◌, ◌≤◌}
use mathlib.Core.Path.{◌≡◌, refl, sym, ap, ◌∙◌, subst}
use mathlib.Core.List.{List}
use mathlib.Core.Bool.{Bool, true, false}
use native.Mathlib.Omega.{arith}
use lib.ListN.{length, get_or, drop, length-drop}
use lib.Seq.{get_or-drop}
use lib.Dec.{ltb}
use borrow.Author.Tests.{ltb-true, ltb-false}
use Rattle.byte_numbers.proofs.Laws.{Same}
use Rattle.record.specs.declared.Header.TheVariants.{Record}
use Rattle.record.specs.Record.{header_at}
use Rattle.record.proofs.Laws.{whole}
use Rattle.segments.specs.declared.Cursor.{Cursor}
use Rattle.segments.specs.Segments.{got, continues}
use Rattle.text_result.specs.TextResult.{text_of}
use Rattle.text_result.proofs.Local.{text_near}
use Rattle.record_chain.specs.Chain.{Chain, here, on, Plain}
use Rattle.moved_records.proofs.Later.{later_cursor, later_got}
use Rattle.moved_records.proofs.Texts.{continues_drop, text_drop}
use Rattle.new_stream.specs.declared.Spot.{Spot}
use Rattle.new_stream.specs.declared.Fate.TheVariants.{Stays}
use Rattle.new_stream.specs.Entries.{fate_of, parts, spot_after}
use Rattle.new_stream.specs.Parts.{Given, View}
use Rattle.new_stream.proofs.Echoed.{Echo}
use Rattle.new_stream.proofs.Fates.{after_at, after_gone, after_kind, after_plain, plain_stays}
use Rattle.new_stream.proofs.Records.{spot, spot_is, kept_next, kept_same}
use Rattle.new_stream.proofs.Echo.{echo_kept}

-- ---- bytes that follow each other in both streams
pub same_on : (s t : List ℕ) (p q m n : ℕ) → Same (drop p s) (drop q t) 0 m → Same (drop (p + m) s) (drop (q + m) t) 0 n → Same (drop p s) (drop q t) 0 (m + n)
same_on s t p q m n a b k i j = by (ltb k m) refl
  where
    place : ltb k m ≡ false → (x : ℕ) → x + k ≡ x + m + (k - m)
    place h x = let l = ltb-false k m h in omega arith

    by : (c : Bool) → ltb k m ≡ c → get_or (drop p s) k 0 ≡ get_or (drop q t) k 0
    by true h = a k i (ltb-true k m h)
    by false h =
        let l = ltb-false k m h in
        get_or-drop p s k 0 ∙ ap (λ (x : ℕ). get_or s x 0) (place h p) ∙ sym (get_or-drop (p + m) s (k - m) 0)
        ∙ b (k - m) (omega arith) (omega arith)
        ∙ get_or-drop (q + m) t (k - m) 0 ∙ ap (λ (x : ℕ). get_or t x 0) (sym (place h q)) ∙ sym (get_or-drop q t k 0)

-- ---- plain records from x to y, of which the new stream shows the first at q
pub record Followed (m : Given) (L K x y q : ℕ) : Type 0 where
  pub size : ℕ
  pub at : y ≡ x + size
  pub view : View m (spot y L K) (q + size)
  pub same : Same (drop x m.s) (drop q m.t) 0 size
  pub echo : Echo m (spot y L K) (q + size) → Echo m (spot x L K) q

module _ (m : Given) (L K : ℕ) (deep : L ≡ 0 → ⊥) (sheet : L ≡ 1 → K ≡ 0x0010) where
  followed_on : (x e y q ty z : ℕ) → header_at m.s x ≡ Record ty z e → (ty ≡ 0x0809 → ⊥) → (ty ≡ 0x000A → ⊥) → fate_of (spot x L K) ty ≡ Stays → View m (spot x L K) q
      → (View m (spot e L K) (q + (4 + z)) → Followed m L K e y (q + (4 + z))) → Followed m L K x y q
  followed_on x e y q ty z h a b i v follow =
      let w : Spot = spot x L K in
      let i' : fate_of (spot x L K) ty ≡ Stays = i in
      let next : spot_after m.s (spot x L K) ty e ≡ spot e L K =
      spot_is (spot_after m.s (spot x L K) ty e) e L K (after_at m.s (spot x L K) ty e) (after_plain m.s (spot x L K) ty e a b) (after_kind m.s (spot x L K) ty e deep) (after_gone m.s (spot x L K) ty e ∙ ap parts i) in
      let rest : Followed m L K e y (q + (4 + z)) = follow (subst (λ (o : Spot). View m o (q + (4 + z))) next (kept_next m (spot x L K) q ty z e deep v h i)) in
      let end : e ≡ x + (4 + z) = let o = whole m.s x ty z e h in omega arith in
      let place : q + (4 + z) + rest.size ≡ q + (4 + z + rest.size) = omega arith in
      record {
        size = 4 + z + rest.size;
        at = let o = rest.at in omega arith;
        view = subst (View m (spot y L K)) place rest.view;
        same = same_on m.s m.t x q (4 + z) rest.size (kept_same m (spot x L K) q ty z e deep v h i) (subst (λ (o : ℕ). Same (drop o m.s) (drop (q + (4 + z)) m.t) 0 rest.size) end rest.same);
        echo = λ ec. echo_kept m (spot x L K) q ty z e deep v h i (λ _. refl) (subst (λ (o : Spot). Echo m o (q + (4 + z))) (sym next) (rest.echo (subst (Echo m (spot y L K)) (sym place) ec)));
      }

  pub follow : (x y q : ℕ) → View m (spot x L K) q → Chain (Plain m.s) x y → Followed m L K x y q
  follow x y q v here =
      let none : q ≡ q + 0 = omega arith in
      record { size = 0; at = omega arith; view = subst (View m (spot x L K)) none v; same = λ k a b. absurd (omega arith); echo = λ ec. subst (Echo m (spot x L K)) (sym none) ec }
  follow x y q v (on {e = e} h r) =
      followed_on x e y q h.over.type h.over.size h.over.is h.no_bof h.no_eof (plain_stays (spot x L K) h.over.type refl sheet h.other h.no_index) v
      (λ o. follow e y (q + (4 + h.over.size)) o r)

-- ---- the text result that stands at e of s, n bytes long, stands as well in t
ends_at : {A : Type 0} (p : ℕ) (u v : A) (c d : Cursor) → later_got p (got u c) ≡ got v d → p + c.end ≡ d.end
ends_at p u v c d h = let x : ◌≡◌ {A = Cursor} (later_cursor p c) d = cc in ap (λ (y : Cursor). y.end) x

pub text_moved : (s t : List ℕ) (p q e n : ℕ) (us : List ℕ) (d : Cursor) → text_of s p (p + e) ≡ got us d → d.end ≡ p + (e + n) → Same (drop p s) (drop q t) 0 (e + n) → q + (e + n) ≤ length t
    → continues t (q + (e + n)) ≡ false → (us₀ : List ℕ) (d₀ : Cursor) → text_of (drop p s) 0 e ≡ got us₀ d₀ → text_of (drop q t) 0 e ≡ got us₀ d₀
text_moved s t p q e n us d is end same fits alone us₀ d₀ h =
    let zero_on : p + 0 ≡ p = omega arith in
    let told : later_got p (got us₀ d₀) ≡ got us d = ap (later_got p) (sym h) ∙ text_drop s p 0 e ∙ ap (λ (f : ℕ). text_of s f (p + e)) zero_on ∙ is in
    let a = ends_at p us₀ us d₀ d told in
    let size : d₀.end ≡ e + n = omega arith in
    let l = length-drop q t in
    text_near (drop p s) 0 e us₀ d₀ h (drop q t) (λ k i j. same k (omega arith) (omega arith)) (omega arith) (continues_drop t q d₀.end (q + (e + n)) (omega arith) ∙ alone)
