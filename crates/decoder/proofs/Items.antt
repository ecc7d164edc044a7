-- A reading is the next item and moves on: what is read at a position of a buffer is the first of the items from there, and the
-- others are those from the position after it. A loop over readings cites `next-item`, or `next_is`, for "what is left gives the same answer".
-- Assumes nothing.
use mathlib.Core.Path.{◌≡◌, refl, ◌∙◌, subst}
use mathlib.Core.List.{List, [], ◌∷◌}
use Prim.Native.Nat.{ℕ, ◌+◌, ◌-◌, ◌≤◌, ◌<◌}
use native.Mathlib.Omega.{arith}
use lib.ListN.{length, take, drop, length-drop}
use lib.Seq.{drop-drop}
use Rattle.std.proofs.Common.{Option, None, Some, Result}
use Rattle.operation.specs.declared.Operation.{Operation}
use Rattle.decoder.specs.Front.{sized, front}
use Rattle.decoder.specs.Reading.{placed, read_at}
use Rattle.decoder.specs.Stream.{Item, item_of, items_of}
use Rattle.decoder.specs.declared.Fault.{Fault}
use Rattle.decoder.specs.declared.Front.{Front}
use Rattle.decoder.specs.declared.Reading.{Reading}
use Rattle.decoder.proofs.Streams.{onward, unroll}

-- what stands at the front from a position on is an item that ends at another position, further on and within the buffer
pub record Spans (s : List ℕ) (at end : ℕ) (f : Front) (i : Item) : Type 0 where
  pub stands : front (drop at s) ≡ Some f
  pub items : items_of (drop at s) ≡ i ∷ items_of (drop end s)
  pub further : at < end
  pub within : end ≤ length s

-- what a reading at a position says of the items from there on
abbrev pub ItemsBy : List ℕ → ℕ → Option Reading → Type 0
ItemsBy s at None = (length s ≤ at) × (items_of (drop at s) ≡ [])
ItemsBy s at (Some r) =
    let n = r.next.at - at in Spans s at r.next.at (sized r.item n) (item_of r.item (take n (drop at s)))

pub next-item : (s : List ℕ) (at : ℕ) {r : Option Reading} → read_at s at ≡ r → ItemsBy s at r
unfolding read_at
next-item s at e = rw e at (go (front (drop at s)) refl)
  where
    size : (n : ℕ) → at + n - at ≡ n
    size n = omega arith

    go : (f : Option Front) → front (drop at s) ≡ f → ItemsBy s at (placed at f)
    go None q = (omega (arith, length-drop at s, onward (drop at s) q), unroll (drop at s) q)
    go (Some f) q =
        let m = onward (drop at s) q in
        rw (size f.size) (record {
          stands = q;
          items = unroll (drop at s) q ∙ rw (drop-drop f.size at s);
          further = omega arith;
          within = omega (arith, length-drop at s);
        })

-- the same where it is known what is read, an operation or a fault
pub next_is : (s : List ℕ) (at : ℕ) {r : Reading} {i : Result Operation Fault} → read_at s at ≡ Some r → r.item ≡ i
    → let n = r.next.at - at in Spans s at r.next.at (sized i n) (item_of i (take n (drop at s)))
next_is s at {r} {i} e q =
    subst (λ (x : Result Operation Fault). Spans s at r.next.at (sized x (r.next.at - at)) (item_of x (take (r.next.at - at) (drop at s))))
    q (next-item s at e)
