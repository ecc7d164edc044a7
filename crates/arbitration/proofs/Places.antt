-- The scan of the slots finds the place of the model's winner, and the winner is the pending frame at that place.
-- Assumes nothing.
use mathlib.Core.Path.{◌≡◌, refl, ap, ◌∙◌}
use mathlib.Core.Bool.{Bool, true, false, cond}
use Prim.Native.Nat.{ℕ, zero, suc, ◌+◌, ◌≤◌, ◌<◌}
use native.Mathlib.Omega.{arith}
use Rattle.plain_bus.specs.Order as plain
use Rattle.plain_bus.specs.Order.{Entry, nobody, wins, rank_of, goes_before}
use Rattle.bus_state.specs.Memory.{Memory, frame_at}
use Rattle.bus_model.specs.Primitives.{entry_at}
use Rattle.bus_model.specs.Round.{pending_at, scan_frames, scan_nodes, winner_in}
use Rattle.scan.specs.declared.Winner.{Winner}
use Rattle.std.specs.Prelude.{Option, None, Some}
use Rattle.scan.specs.Winner.{before, better, best_of, best_from, best_in}

-- the place of a winner
abbrev place_of : plain.Winner → Option Winner
place_of nobody = None
place_of (wins x) = Some (record { rank = rank_of x; owner = x.owner; position = x.position })

better_place : (w : plain.Winner) (y : Entry) → place_of (plain.better w y) ≡ better (place_of w) (rank_of y) y.owner y.position
unfolding plain.better better goes_before
better_place nobody y = refl
better_place (wins x) y = go (before (rank_of y) y.owner y.position (rank_of x) x.owner x.position)
  where
    go : (t : Bool)
        → place_of (wins (cond t y x))
        ≡ cond t (place_of (wins y)) (place_of (wins x))
    go true = refl
    go false = refl

frames_place : (m : Memory) (j n q : ℕ) (w : plain.Winner) → place_of (scan_frames m j q n w) ≡ best_of m.slots j q n (place_of w)
unfolding scan_frames best_of frame_at
frames_place m j zero q w = refl
frames_place m j (suc n) q w =
    frames_place m j n (suc q) (plain.better w (pending_at m j q))
    ∙ ap (best_of m.slots j (suc q) n) (better_place w (pending_at m j q))

nodes_place : (m : Memory) (n j : ℕ) (w : plain.Winner)
    → place_of (scan_nodes m j n w) ≡ best_from m.state.nodes m.slots j n (place_of w)
unfolding scan_nodes best_from
nodes_place m zero j w = refl
nodes_place m (suc n) j w =
    nodes_place m n (suc j) (scan_frames m j 0 (entry_at m j).pending w)
    ∙ ap (best_from m.state.nodes m.slots (suc j) n) (frames_place m j (entry_at m j).pending 0 w)

winner_place : (m : Memory) → place_of (winner_in m) ≡ best_in m.state m.slots
unfolding winner_in best_in
winner_place m = nodes_place m m.state.count 0 nobody

-- ---- the winner is pending at its place

-- nobody, or a frame at its place, of a node below a number
data Stands (m : Memory) (n : ℕ) : plain.Winner → Type 0 where
  none : Stands m n nobody
  stands : (j q : ℕ) → j < n → q < (entry_at m j).pending → Stands m n (wins (pending_at m j q))

stands-better : (m : Memory) (n : ℕ) (w : plain.Winner) (j q : ℕ) → Stands m n w → j < n → q < (entry_at m j).pending
    → Stands m n (plain.better w (pending_at m j q))
unfolding plain.better
stands-better m n nobody j q s h l = stands j q h l
stands-better m n (wins x) j q s h l = go (goes_before (pending_at m j q) x)
  where
    go : (t : Bool) → Stands m n (wins (cond t (pending_at m j q) x))
    go true = stands j q h l
    go false = s

stands-frames : (m : Memory) (c j n q : ℕ) (w : plain.Winner) → Stands m c w → j < c → q + n ≤ (entry_at m j).pending
    → Stands m c (scan_frames m j q n w)
unfolding scan_frames
stands-frames m c j zero q w s h l = s
stands-frames m c j (suc n) q w s h l =
    stands-frames m c j n (suc q) (plain.better w (pending_at m j q)) (stands-better m c w j q s h (omega arith)) h (omega arith)

stands-nodes : (m : Memory) (c n j : ℕ) (w : plain.Winner) → Stands m c w → j + n ≤ c → Stands m c (scan_nodes m j n w)
unfolding scan_nodes
stands-nodes m c zero j w s h = s
stands-nodes m c (suc n) j w s h =
    stands-nodes m c n (suc j) (scan_frames m j 0 (entry_at m j).pending w)
    (stands-frames m c j (entry_at m j).pending 0 w s (omega arith) (omega arith)) (omega arith)

stands-winner : (m : Memory) → Stands m m.state.count (winner_in m)
unfolding winner_in
stands-winner m = stands-nodes m m.state.count m.state.count 0 nobody none (omega arith)

-- ---- what the scan says of the model

pub nobody-wins : (m : Memory) → best_in m.state m.slots ≡ None → winner_in m ≡ nobody
nobody-wins m e = go (winner_in m) (winner_place m ∙ e)
  where
    go : (w : plain.Winner) → place_of w ≡ None → w ≡ nobody
    go nobody q = refl
    go (wins x) q = let z : ◌≡◌ {A = ℕ} 0 1 = cc in absurd (omega arith)

-- the frame that won, where it stands
pub record Won (m : Memory) (owner position : ℕ) : Type 0 where
  pub winner : winner_in m ≡ wins (pending_at m owner position)
  pub attached : owner < m.state.count
  pub pending : position < (entry_at m owner).pending

pub first-wins : (m : Memory) {won : Winner} → best_in m.state m.slots ≡ Some won → Won m won.owner won.position
first-wins m {won} e = go (winner_in m) refl (stands-winner m) (winner_place m ∙ e)
  where
    go : (w : plain.Winner) → winner_in m ≡ w → Stands m m.state.count w → place_of w ≡ Some won → Won m won.owner won.position
    go nobody r none q = let z : ◌≡◌ {A = ℕ} 0 1 = cc in absurd (omega arith)
    go (wins x) r (stands j p h l) q =
        let a : j ≡ won.owner = cc in
        let b : p ≡ won.position = cc in
        rw (← a, ← b) (record { winner = r; attached = h; pending = l })
