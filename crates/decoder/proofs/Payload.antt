-- The data of an operation that ends at a position: they stay before it, and those of one that was read are its bytes past its
-- header.
-- Assumes nothing.
use mathlib.Core.Path.{◌≡◌, refl, sym, ap, ◌∙◌}
use mathlib.Core.Bool.{Bool, true, false, cond, ◌&&◌}
use mathlib.Core.List.{List, []}
use Prim.Native.Nat.{ℕ, ◌+◌, ◌-◌, ◌≤◌}
use native.Mathlib.Omega.{arith}
use lib.Dec.{leb}
use lib.ListN.{length, take, drop, length-take, length-drop}
use lib.Seq.{length-take-le, take-add, drop_at, drop-drop}
use borrow.Author.Tests.{leb-true, le-leb, lt-leb}
use Rattle.operation.specs.Format.{head_length, data_length, length_of}
use Rattle.operation.specs.declared.Operation.{Operation}
use Rattle.operation.proofs.Tests.{both}
use Rattle.std.proofs.Common.{Option, None, Some, Ok, Bor}
use Rattle.std.specs.Option.{unwrap_or}
use Rattle.std.specs.List.{PartBy}
use Rattle.decoder.specs.Front.{sized, front}
use Rattle.decoder.specs.Reading.{data_at}
use Rattle.decoder.proofs.Found.{found}

pub data_within : (s : List ℕ) (op : Operation) (end : ℕ) → length (data_at s op end) ≤ end
unfolding data_at
data_within s op end = go (leb (length_of op) end && leb end (length s)) refl
  where
    n : ℕ
    n = data_length op

    go : (t : Bool) → (leb (length_of op) end && leb end (length s)) ≡ t → length (cond t (take n (drop (end - n) s)) []) ≤ end
    go true e =
        let h = leb-true (length_of op) end (both (leb (length_of op) end) (leb end (length s)) e).0 in
        simp length-take (omega arith)
    go false e = omega arith

-- the n bytes before a position as `get` gives them, and none where the bytes end before it
pub part_or : (s : List ℕ) (n end : ℕ) (r : Option (Bor (List ℕ))) (d : Bor (List ℕ)) → n ≤ end
    → PartBy (λ (x : Bor (List ℕ)). x.now) s (end - n) end r → d.now ≡ [] → (unwrap_or r d).now ≡ cond (leb end (length s)) (take n (drop (end - n) s)) []
part_or s n end None d h p e = rw (lt-leb end (length s) (omega (arith, p.0)), e)
part_or s n end (Some b) d h p e =
    let m : end - (end - n) ≡ n = omega arith in
    rw (le-leb end (length s) p.0.1) (rw m at p.0.2)

-- what is left of some bytes after the first of them, cut short: cut short behind the first
drop-take : (h d : ℕ) (l : List ℕ) → h + d ≤ length l → drop h (take (h + d) l) ≡ take d (drop h l)
drop-take h d l e = rw (take-add h d l) (drop_at (take h l) (take d (drop h l)) h (length-take-le h l (omega arith)))

pub data_found : (s : List ℕ) (at : ℕ) (op : Operation) (n : ℕ) → front (drop at s) ≡ Some (sized (Ok op) n)
    → data_at s op (at + n) ≡ drop (head_length op) (take n (drop at s))
unfolding data_at
data_found s at op n e =
    let f = found e in
    let h = head_length op in
    let d = data_length op in
    let size : n ≡ head_length op + data_length op = f.exact in
    let left : length (drop at s) ≡ length s - at = length-drop at s in
    let inside : at + n ≤ length s = omega (arith, f.least, f.within) in
    let place : at + n - d ≡ at + h = omega arith in
    rw (le-leb (length_of op) (at + n) (omega arith), le-leb (at + n) (length s) inside, place, size)
    (sym (drop-take h d (drop at s) (omega (arith, f.within)) ∙ ap (take d) (drop-drop h at s)))
