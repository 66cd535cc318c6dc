-- The length of a table is known before it is written; and a table inside a longer stream. Assumes nothing.
use Prim.Native.Nat.{ℕ, ◌+◌, ◌-◌}
use mathlib.Core.Path.{◌≡◌, refl}
use mathlib.Core.List.{List, [], ◌∷◌, ◌++◌}
use mathlib.Core.Bool.{Bool, true, false}
use native.Mathlib.Omega.{arith}
use lib.ListN.{length, length-append}
use Rattle.steps.specs.Choice.{pick}
use Rattle.byte_numbers.specs.Bytes.{bytes_of}
use Rattle.byte_numbers.proofs.Laws.{length_bytes}
use Rattle.table_texts.specs.Texts.{Text}
use Rattle.table_texts.specs.Written.{Piece, Laid, put, opens, room_after, lay, laid_size, pieces_of, record_bytes, continue_bytes, laid_of, sst_body, table_bytes, table_size}

pub record_length : (k : ℕ) (b : List ℕ) → length (record_bytes k b) ≡ 4 + length b
unfolding record_bytes
record_length k b =
    let a = length-append (bytes_of 2 k) (bytes_of 2 (length b) ++ b) in
    let c = length-append (bytes_of 2 (length b)) b in
    let d = length_bytes 2 k in
    let e = length_bytes 2 (length b) in
    omega arith

-- the bytes of what is laid: those here, and those of the CONTINUEs
abbrev pub laid_length : Laid → ℕ
laid_length l = length l.here + length (continue_bytes l.more)

pub laid_size_lem : (r : ℕ) (ps : List Piece) → laid_length (lay r ps) ≡ laid_size r ps
unfolding lay laid_size continue_bytes pick
laid_size_lem r [] = refl
laid_size_lem r (p ∷ ps) = by (opens r p) (lay (room_after r p) ps) (laid_size (room_after r p) ps) (laid_size_lem (room_after r p) ps)
  where
    by : (b : Bool) (l : Laid) (n : ℕ) → laid_length l ≡ n → laid_length (put b p l) ≡ pick b (4 + length p.opening) 0 + (length p.body + n)
    by true l n h =
        let a = length-append (record_bytes 0x003c (p.opening ++ (p.body ++ l.here))) (continue_bytes l.more) in
        let c = record_length 0x003c (p.opening ++ (p.body ++ l.here)) in
        let d = length-append p.opening (p.body ++ l.here) in
        let e = length-append p.body l.here in
        omega arith
    by false l n h = let e = length-append p.body l.here in omega arith

pub table_size_lem : (total : ℕ) (ts : List Text) → length (table_bytes total ts) ≡ table_size ts
unfolding table_bytes table_size
table_size_lem total ts =
    let a = length-append (record_bytes 0x00fc (sst_body total ts)) (continue_bytes (laid_of ts).more) in
    let b = record_length 0x00fc (sst_body total ts) in
    let c = length-append (bytes_of 4 total) (bytes_of 4 (length ts) ++ (laid_of ts).here) in
    let d = length-append (bytes_of 4 (length ts)) (laid_of ts).here in
    let e = length_bytes 4 total in
    let f = length_bytes 4 (length ts) in
    let g = laid_size_lem (8224 - 8) (pieces_of ts) in
    omega arith
