-- The scan of the slots in use finds the winner of the view, and an injection is wrong for both alike.
-- Assumes nothing.
use mathlib.Core.Path.{◌≡◌, refl, sym, ap, ◌∙◌}
use Prim.Native.Nat.{ℕ, zero, suc, ◌+◌, ◌*◌}
use native.Mathlib.Omega.{arith}
use native.Mathlib.Nat.{add-zero}
use mathlib.Core.Bool.{Bool, true, false, not, ◌||◌}
use mathlib.Core.List.{List, [], ◌∷◌, ◌++◌}
use lib.Dec.{ltb}
use borrow.Author.Tests.{ltb-true}
use Rattle.operation.specs.Rules.{one_of, error_codes}
use Rattle.plain_bus.specs.Held.{is_off, node_at}
use Rattle.plain_bus.specs.Order.{Entry, Winner, nobody, entries_of, entries_from, better, first_of, winner}
use Rattle.plain_bus.specs.Round.{Injection, no_error, injected}
use Rattle.plain_bus.specs.Calls.{wrong_injection}
use Rattle.bus_state.specs.Memory.{Memory, frames_from, node_view, nodes_from, view}
use Rattle.bus_model.specs.Primitives.{entry_at, off_at}
use Rattle.bus_model.specs.Round.{pending_at, scan_frames, scan_nodes, winner_in}
use Rattle.bus_model.specs.Calls.{wrong_injection_in}
use Rattle.bus_model.proofs.Buses.{view-length, view_at}

first-append : (w : Winner) (xs ys : List Entry) → first_of w (xs ++ ys) ≡ first_of (first_of w xs) ys
unfolding first_of
first-append w [] ys = refl
first-append w (x ∷ xs) ys = first-append (better w x) xs ys

scan_frames_lem : (m : Memory) (j n q : ℕ) (w : Winner) → scan_frames m j q n w ≡ first_of w (entries_of j q (frames_from m (4 * j + q) n))
unfolding scan_frames first_of entries_of frames_from
scan_frames_lem m j zero q w = refl
scan_frames_lem m j (suc n) q w =
    let e : 4 * j + suc q ≡ suc (4 * j + q) = omega arith in
    scan_frames_lem m j n (suc q) (better w (pending_at m j q))
    ∙ ap (λ (p : ℕ). first_of (better w (pending_at m j q)) (entries_of j (suc q) (frames_from m p n))) e

scan_nodes_lem : (m : Memory) (n j : ℕ) (w : Winner) → scan_nodes m j n w ≡ first_of w (entries_from j (nodes_from m j n))
unfolding scan_nodes entries_from nodes_from node_view first_of
scan_nodes_lem m zero j w = refl
scan_nodes_lem m (suc n) j w =
    let a : scan_frames m j 0 (entry_at m j).pending w ≡ first_of w (entries_of j 0 (frames_from m (4 * j) (entry_at m j).pending)) =
    scan_frames_lem m j (entry_at m j).pending 0 w
    ∙ ap (λ (p : ℕ). first_of w (entries_of j 0 (frames_from m p (entry_at m j).pending))) (add-zero (4 * j)) in
    ap (scan_nodes m (suc j) n) a
    ∙ scan_nodes_lem m n (suc j) (first_of w (entries_of j 0 (frames_from m (4 * j) (entry_at m j).pending)))
    ∙ sym (first-append w (entries_of j 0 (frames_from m (4 * j) (entry_at m j).pending)) (entries_from (suc j) (nodes_from m (suc j) n)))

pub winner-view : (m : Memory) → winner_in m ≡ winner (view m)
unfolding winner_in winner view
winner-view m = scan_nodes_lem m m.state.count 0 nobody

pub injection_view : (m : Memory) (e : Injection) → wrong_injection_in m e ≡ wrong_injection (view m) e
unfolding wrong_injection_in wrong_injection node_view
injection_view m no_error = refl
injection_view m (injected code detector) = rw (view-length m) (go (one_of code error_codes) (ltb detector m.state.count) refl)
  where
    go : (c t : Bool) → ltb detector m.state.count ≡ t
        → (not c || not t || off_at m detector) ≡ (not c || not t || is_off (node_at (view m) detector))
    go false t e = refl
    go true false e = refl
    go true true e = rw (view_at m detector (ltb-true detector m.state.count e))
