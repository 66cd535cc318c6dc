-- The top-level substreams after the globals pass in the new stream, and its BOFs are those of the old one, moved. Assumes nothing.
use Prim.Native.Nat.{ℕ, zero, suc, ◌+◌, ◌-◌, ◌*◌, ◌^◌, ◌≤◌, ◌<◌}
use mathlib.Core.Path.{◌≡◌, refl, sym, ap, ap₂, ◌∙◌, subst}
use mathlib.Core.List.{List, [], ◌∷◌, ◌++◌, map, append-nil}
use mathlib.Core.Bool.{Bool, true, false}
use native.Mathlib.Omega.{arith}
use lib.ListN.{length, drop, length-drop, drop_of_length-le}
use lib.Seq.{take_all}
use lib.Dec.{leb, ltb}
use borrow.Author.Tests.{leb-true, ltb-true, ltb-false}
use Rattle.std.specs.Prelude.{Option, Some, None, Result, Ok, Err}
use Rattle.refusal.specs.declared.Refusal.{Refusal}
use Rattle.steps.specs.Choice.{pick}
use Rattle.steps.proofs.Choice.{never, pick_by, pick_eq, pick_ne, pick_nle, pick_true, pick_false}
use Rattle.steps.specs.Walk.{Next, more, stop, next}
use Rattle.steps.specs.Items.{Item, ends, onto}
use Rattle.byte_numbers.specs.Bytes.{byte_at, num_at, bytes_at}
use Rattle.record.specs.declared.Header.{Header}
use Rattle.record.specs.declared.Header.TheVariants.{Record, Cut, End}
use Rattle.record.specs.Record.{header_at}
use Rattle.record.proofs.Laws.{whole, header_end}
use Rattle.substream.specs.Substream.{kind_at, substream_in}
use Rattle.substream.proofs.Laws.{onward}
use Rattle.sheet_agreement.specs.declared.SheetKind.TheVariants.{Other}
use Rattle.sheet_agreement.specs.Agreement.{same_kind, Bof}
use Rattle.top_level.specs.TopLevel.{all_zero, bof_kind, on_top, top_of, back, turn, tops_from, on_ended, on_open, bof_at, bofs_from}
use Rattle.top_level.proofs.Bofs.{opens, go, falls, tops_step, bofs_done, bofs_more}
use Rattle.reading.specs.Claims.{Every}
use Rattle.record_chain.proofs.Chain.{every_map}
use Rattle.record_chain.proofs.Tops.{opening}
use Rattle.passes_after.proofs.Walks.{end_is, done_zeros}
use Rattle.passes_after.proofs.Zeros.{zeros_from}
use Rattle.moved_records.proofs.Moved.{num_moved}
use Rattle.new_stream.specs.declared.Spot.{Spot}
use Rattle.new_stream.specs.declared.Entry.{Entry}
use Rattle.new_stream.specs.declared.Fate.TheVariants.{Stays}
use Rattle.new_stream.specs.Entries.{spot_after, rest_item, on_header, entry_item, entries_from}
use Rattle.new_stream.specs.Compact.{written}
use Rattle.new_stream.proofs.Echoed.{Echoes, none, rest, Echo}
use Rattle.new_stream.specs.Parts.{Given, View, moved_bof, BofsApart, BofViewed}
use Rattle.new_stream.proofs.Entries.{entries_step}
use Rattle.new_stream.proofs.Written.{view_place}
use Rattle.new_stream.proofs.Records.{spot, bof_same, bof_header}
use Rattle.new_stream.proofs.Substreams.{Landing, substream_moves}

-- ---- what stands after the last substream
module _ (s T : List ℕ) (index place : ℕ → ℕ) where
  abbrev out : Item Spot Entry → List ℕ
  out x = written s T index place (onto x (λ w. entries_from s w))

  item_end : (w : Spot) → length s ≤ w.at → entry_item s w ≡ ends
  unfolding entry_item
  item_end w h = ap (on_header s w) (sym (header_end s w.at h))

  end_out : (w : Spot) → length s ≤ w.at → written s T index place (entries_from s w) ≡ []
  unfolding written
  end_out w h = ap (written s T index place) (entries_step s w ∙ ap (λ (x : Item Spot Entry). onto x (λ w. entries_from s w)) (item_end w h))

  rest_out : (w : Spot) → out (rest_item s w) ≡ drop w.at s
  unfolding rest_item written bytes_at
  rest_out w =
      pick_by (λ (x : Item Spot Entry). out x ≡ drop w.at s) (leb (length s) w.at)
      (λ h. sym (drop_of_length-le s (leb-true (length s) w.at h)))
      (λ _. ap₂ (λ (a b : List ℕ). a ++ b) (take_all (length s - w.at) (drop w.at s) (let l = length-drop w.at s in omega arith)) (end_out (record { at = length s; level = 0; kind = 0; gone = false }) (omega arith)) ∙ append-nil (drop w.at s))

  end_empty : out ends ≡ []
  unfolding written
  end_empty = refl

  header_out : (w : Spot) → w.level ≡ 0 → all_zero (drop w.at s) ≡ true → (x : Header) → header_at s w.at ≡ x → out (on_header s w x) ≡ drop w.at s
  unfolding num_at
  header_out w l h (Record t z e) i =
      let r = whole s w.at t z e i in
      let a : byte_at s w.at ≡ 0 = zeros_from s w.at h w.at (omega arith) in
      let b : byte_at s (w.at + 1) ≡ 0 = zeros_from s w.at h (w.at + 1) (omega arith) in
      let k : t ≡ byte_at s w.at + 256 * (byte_at s (w.at + 1) + 256 * 0) = r.kind in
      ap out (sym (pick_eq (rest_item s w) _ _ w.level 0 l (pick_ne (rest_item s w) _ _ t 0x0809 (λ c. omega arith) refl))) ∙ rest_out w
  header_out w l h Cut i = rest_out w
  header_out w l h End i = end_empty ∙ sym (drop_of_length-le s (end_is s w.at i))

  pub zeros_out : (w : Spot) → w.level ≡ 0 → all_zero (drop w.at s) ≡ true → written s T index place (entries_from s w) ≡ drop w.at s
  unfolding entry_item
  zeros_out w l h = ap (written s T index place) (entries_step s w) ∙ header_out w l h (header_at s w.at) refl

-- its entry
module _ (s : List ℕ) where
  entries_end : (w : Spot) → length s ≤ w.at → entries_from s w ≡ []
  entries_end w h = entries_step s w ∙ ap (λ (x : Item Spot Entry). onto x (λ w. entries_from s w)) (item_end s s (λ n. n) (λ n. n) w h)

  rest_entries : (w : Spot) → w.at < length s → onto (rest_item s w) (λ w. entries_from s w) ≡ record { at = w.at; size = length s - w.at; fate = Stays } ∷ []
  unfolding rest_item
  rest_entries w h =
      ap (λ (x : Item Spot Entry). onto x (λ w. entries_from s w)) (sym (pick_nle _ _ _ (length s) w.at h refl))
      ∙ ap (λ (l : List Entry). record { at = w.at; size = length s - w.at; fate = Stays } ∷ l) (entries_end (record { at = length s; level = 0; kind = 0; gone = false }) (omega arith))

  header_rest : (w : Spot) → w.level ≡ 0 → all_zero (drop w.at s) ≡ true → w.at < length s → (x : Header) → header_at s w.at ≡ x → onto (on_header s w x) (λ w. entries_from s w) ≡ record { at = w.at; size = length s - w.at; fate = Stays } ∷ []
  unfolding num_at
  header_rest w l h n (Record t z e) i =
      let r = whole s w.at t z e i in
      let a : byte_at s w.at ≡ 0 = zeros_from s w.at h w.at (omega arith) in
      let b : byte_at s (w.at + 1) ≡ 0 = zeros_from s w.at h (w.at + 1) (omega arith) in
      let k : t ≡ byte_at s w.at + 256 * (byte_at s (w.at + 1) + 256 * 0) = r.kind in
      ap (λ (x : Item Spot Entry). onto x (λ w. entries_from s w)) (sym (pick_eq (rest_item s w) _ _ w.level 0 l (pick_ne (rest_item s w) _ _ t 0x0809 (λ c. omega arith) refl))) ∙ rest_entries w n
  header_rest w l h n Cut i = rest_entries w n
  header_rest w l h n End i = let e = end_is s w.at i in absurd (omega arith)

  zeros_entry : (w : Spot) → w.level ≡ 0 → all_zero (drop w.at s) ≡ true → w.at < length s → entries_from s w ≡ record { at = w.at; size = length s - w.at; fate = Stays } ∷ []
  unfolding entry_item
  zeros_entry w l h n = entries_step s w ∙ header_rest w l h n (header_at s w.at) refl

bof_five : same_kind (bof_kind 0x0005) Other ≡ true
unfolding bof_kind pick
bof_five = refl

module _ (m : Given) (u u' : ℕ) (fresh : (i : ℕ) → m.Used i → i < u → m.index i < u') (small : u' ≤ 256 ^ 4) where
  abbrev s : List ℕ
  s = m.s

  abbrev t : List ℕ
  t = m.t

  -- ---- what stands at q of the new stream, where the old one has a place between its top-level substreams
  module _ (x K q : ℕ) (v : View m (spot x 0 K) q) where
    done_moved : top_of s x ≡ (Ok None) → top_of t q ≡ (Ok None)
    unfolding top_of
    done_moved h =
        let z = done_zeros s x h in
        let same : drop q t ≡ drop x s = v.view ∙ zeros_out s m.T m.index m.place (spot x 0 K) refl z in
        sym (pick_true (Ok None) (Ok None) _ _ (ap all_zero same ∙ z) refl)

    done_echo : top_of s x ≡ (Ok None) → Echo m (spot x 0 K) q
    unfolding bytes_at
    done_echo h y my =
        let z = done_zeros s x h in
        let same : drop q t ≡ drop x s = v.view ∙ zeros_out s m.T m.index m.place (spot x 0 K) refl z in
        let sizes : length t - q ≡ length s - x = sym (length-drop q t) ∙ ap length same ∙ length-drop x s in
        by z same sizes (ltb x (length s)) refl
      where
        by : all_zero (drop x s) ≡ true → drop q t ≡ drop x s → length t - q ≡ length s - x → (b : Bool) → ltb x (length s) ≡ b → Echoes m q (entries_from s (spot x 0 K)) (entries_from t y)
        by z same sizes true i =
            let l = ltb-true x (length s) i in
            let at = my.at in
            let here : ◌≡◌ {A = List Entry} (record { at = y.at; size = length t - y.at; fate = Stays } ∷ []) (record { at = q; size = length s - x; fate = Stays } ∷ []) =
            ap₂ {C = List Entry} (λ (a n : ℕ). record { at = a; size = n; fate = Stays } ∷ []) at (ap (λ (a : ℕ). length t - a) at ∙ sizes) in
            subst (λ (a : List Entry). Echoes m q a (entries_from t y)) (sym (zeros_entry s (spot x 0 K) refl z l))
            (subst (Echoes m q (record { at = x; size = length s - x; fate = Stays } ∷ []))
            (sym (zeros_entry t y my.level (ap (λ (a : ℕ). all_zero (drop a t)) at ∙ ap all_zero same ∙ z) (omega arith) ∙ here))
            (rest (omega arith) (take_all (length s - x) (drop q t) (let d = length-drop q t in omega arith))))
        by z same sizes false i =
            let l = ltb-false x (length s) i in
            let at = my.at in
            let w = v.within in
            subst (λ (a : List Entry). Echoes m q a (entries_from t y)) (sym (entries_end s (spot x 0 K) l))
            (subst (Echoes m q []) (sym (entries_end t y (omega arith)))
            (none (same ∙ drop_of_length-le s l)))

    module _ (k : ℕ) (h : top_of s x ≡ Ok (Some k)) where
      bof_there : header_at t q ≡ Record 0x0809 16 (q + 20)
      bof_there = bof_header m (spot x 0 K) q v (opening s x k h).header

      kind_same : kind_at t q ≡ k
      kind_same = sym (num_moved s t x q 2 6 20 (bof_same m (spot x 0 K) q v (opening s x k h).header) (omega arith)) ∙ (opening s x k h).kind

      not_zeros : all_zero (drop q t) ≡ false
      unfolding num_at
      not_zeros = by (all_zero (drop q t)) refl
        where
          by : (b : Bool) → all_zero (drop q t) ≡ b → b ≡ false
          by true z =
              let w = whole t q 0x0809 16 (q + 20) bof_there in
              let k : 0x0809 ≡ byte_at t q + 256 * (byte_at t (q + 1) + 256 * 0) = w.kind in
              let a : byte_at t q ≡ 0 = zeros_from t q z q (omega arith) in
              let b : byte_at t (q + 1) ≡ 0 = zeros_from t q z (q + 1) (omega arith) in
              absurd (omega arith)
          by false z = refl

      open_moved : top_of t q ≡ Ok (Some k)
      unfolding top_of
      open_moved =
          let some = (opens s x (Ok (Some k)) (sym h)).1 in
          sym (pick_false (Ok (Some k)) (Ok None) _ _ not_zeros (sym (ap (on_top t q) bof_there ∙ by kind_same some)))
        where
          by : kind_at t q ≡ k → same_kind (bof_kind k) Other ≡ false → on_top t q (Record 0x0809 16 (q + 20)) ≡ Ok (Some k)
          by i some = sym (pick_eq (Ok (Some k)) _ _ 0x0809 0x0809 refl (pick_eq (Ok (Some k)) _ _ 16 16 refl (pick_false (Ok (Some k)) _ _ (same_kind (bof_kind (kind_at t q)) Other) (ap (λ (n : ℕ). same_kind (bof_kind n) Other) i ∙ some) (λ j. Ok (Some (sym i j))))))

      -- it isn't a second globals
      later_kind : k ≡ 0x0005 → ⊥
      later_kind i =
          let some = (opens s x (Ok (Some k)) (sym h)).1 in
          let five : same_kind (bof_kind k) Other ≡ true = ap (λ (n : ℕ). same_kind (bof_kind n) Other) i ∙ bof_five in
          never (cc)

      substream_moved : (e : ℕ) → substream_in 4 s u k x ≡ Ok e → Landing m u u' fresh small (substream_in 4 t u' k) (spot x 0 K) q e 0 (spot_after s (spot x 0 K) 0x0809 (x + 20)).kind
      substream_moved e i = substream_moves m u u' fresh small 4 k (spot x 0 K) q e (λ _. (opening s x k h).kind) (λ n. absurd (n refl)) later_kind v (opening s x k h).header i

  -- ---- the walk and the list of BOFs
  pub record TopsMoved (x K q : ℕ) : Type 0 where
    pub passed : tops_from t u' q ≡ Ok tt
    pub bofs : bofs_from t u' q ≡ map (moved_bof m) (bofs_from s u x)
    pub after : Every (λ (b : Bof). q ≤ m.total b.start) (bofs_from s u x)
    pub apart : BofsApart m (bofs_from s u x)
    pub echo : Echo m (spot x 0 K) q
    pub views : Every (λ (b : Bof). BofViewed m b.start) (bofs_from s u x)

  stops_not : (x : ℕ) {r : Refusal} → tops_from s u x ≡ Ok tt → go s u x ≡ stop (Err r) → ⊥
  stops_not x {r} h i = let f = tops_step s u x ∙ ap (λ (y : Next ℕ (Result (Unit {0}) Refusal)). next y (tops_from s u)) i in never (cc)

  on_more : (x e : ℕ) → tops_from s u x ≡ Ok tt → go s u x ≡ more e → tops_from s u e ≡ Ok tt
  on_more x e h i = sym (tops_step s u x ∙ ap (λ (y : Next ℕ (Result (Unit {0}) Refusal)). next y (tops_from s u)) i) ∙ h

  from_more : (q e : ℕ) → go t u' q ≡ more e → tops_from t u' q ≡ tops_from t u' e
  from_more q e i = tops_step t u' q ∙ ap (λ (y : Next ℕ (Result (Unit {0}) Refusal)). next y (tops_from t u')) i

  from_done : (q : ℕ) → go t u' q ≡ stop (Ok tt) → tops_from t u' q ≡ Ok tt
  from_done q i = tops_step t u' q ∙ ap (λ (y : Next ℕ (Result (Unit {0}) Refusal)). next y (tops_from t u')) i

  abbrev Again : ℕ → Type 0
  Again x = (e K q : ℕ) → length s - e < length s - x → View m (spot e 0 K) q → tops_from s u e ≡ Ok tt → TopsMoved e K q

  module _ (x K q : ℕ) (v : View m (spot x 0 K) q) (h : tops_from s u x ≡ Ok tt) (again : Again x) where
    done_tops : top_of s x ≡ (Ok None) → TopsMoved x K q
    unfolding bof_at
    done_tops i =
        let none : bofs_from s u x ≡ [] = bofs_done s u x None (sym (ap (on_open s u x) i)) refl in
        let none' : bofs_from t u' q ≡ [] = bofs_done t u' q None (sym (ap (on_open t u' q) (done_moved x K q v i))) refl in
        record {
          passed = from_done q (ap (turn t u' q) (done_moved x K q v i));
          bofs = none' ∙ sym (ap (map (moved_bof m)) none);
          after = subst (Every (λ (b : Bof). q ≤ m.total b.start)) (sym none) tt;
          apart = subst (BofsApart m) (sym none) tt;
          echo = done_echo x K q v i;
          views = subst (Every (λ (b : Bof). BofViewed m b.start)) (sym none) tt;
        }

    open_tops : (k : ℕ) → top_of s x ≡ Ok (Some k) → (a : Result ℕ Refusal) → substream_in 4 s u k x ≡ a → TopsMoved x K q
    unfolding bof_at
    open_tops k i (Ok e) j =
        let l = substream_moved x K q v k i e j in
        let old : go s u x ≡ more e = ap (turn s u x) i ∙ ap back j in
        let new : go t u' q ≡ more l.end = ap (turn t u' q) (open_moved x K q v k i) ∙ ap back l.ends in
        let rest : TopsMoved e (spot_after s (spot x 0 K) 0x0809 (x + 20)).kind l.end = again e (spot_after s (spot x 0 K) 0x0809 (x + 20)).kind l.end (falls s u x e old) l.view (on_more x e h old) in
        let some : bofs_from s u x ≡ record { start = x; kind = bof_kind k } ∷ bofs_from s u e = bofs_more s u x (Some (record { kind = bof_kind k; end = e })) (sym (ap (on_open s u x) i ∙ ap (on_ended k) j)) (record { kind = bof_kind k; end = e }) refl in
        let some' : bofs_from t u' q ≡ record { start = q; kind = bof_kind k } ∷ bofs_from t u' l.end = bofs_more t u' q (Some (record { kind = bof_kind k; end = l.end })) (sym (ap (on_open t u' q) (open_moved x K q v k i) ∙ ap (on_ended k) l.ends)) (record { kind = bof_kind k; end = l.end }) refl in
        let here : m.total x ≡ q = view_place m (spot x 0 K) q v in
        let ahead = onward 4 t u' k q l.end l.ends in
        record {
          passed = from_more q l.end new ∙ rest.passed;
          bofs = some' ∙ ap₂ (λ (n : ℕ) (r : List Bof). record { start = n; kind = bof_kind k } ∷ r) (sym here) rest.bofs ∙ sym (ap (map (moved_bof m)) some);
          after = subst (Every (λ (b : Bof). q ≤ m.total b.start)) (sym some) (omega arith, every_map (λ (b : Bof). l.end ≤ m.total b.start) (λ (b : Bof). q ≤ m.total b.start) (λ b o. omega arith) (bofs_from s u e) rest.after);
          apart = subst (BofsApart m) (sym some) (every_map (λ (b : Bof). l.end ≤ m.total b.start) (λ (b : Bof). m.total x ≡ m.total b.start → ⊥) (λ b o c. omega arith) (bofs_from s u e) rest.after, rest.apart);
          echo = l.echo rest.echo;
          views = subst (Every (λ (b : Bof). BofViewed m b.start)) (sym some) (record { kind = K; view = subst (View m (spot x 0 K)) (sym here) v }, rest.views);
        }
    open_tops k i (Err r) j = absurd (stops_not x h (ap (turn s u x) i ∙ ap back j))

    top_by : (y : Result (Option ℕ) Refusal) → top_of s x ≡ y → TopsMoved x K q
    top_by (Ok (Some k)) i = open_tops k i (substream_in 4 s u k x) refl
    top_by (Ok None) i = done_tops i
    top_by (Err r) i = absurd (stops_not x h (ap (turn s u x) i))

  tops_by : (n x K q : ℕ) → length s - x < n → View m (spot x 0 K) q → tops_from s u x ≡ Ok tt → TopsMoved x K q
  tops_by zero x K q l v h = absurd (omega arith)
  tops_by (suc n) x K q l v h = top_by x K q v h (λ e K' r less v' h'. tops_by n e K' r (omega arith) v' h') (top_of s x) refl

  pub tops_moved : (x K q : ℕ) → View m (spot x 0 K) q → tops_from s u x ≡ Ok tt → TopsMoved x K q
  tops_moved x K q v h = tops_by (suc (length s - x)) x K q (omega arith) v h
