-- What a round owes one node and makes of it, in the memory and on the plain bus.
-- Assumes nothing.
use mathlib.Core.Path.{◌≡◌, refl, sym, ap, ◌∙◌}
use Prim.Native.Nat.{ℕ, zero, suc, ◌+◌, ◌*◌, ◌≤◌, ◌<◌}
use native.Mathlib.Omega.{arith}
use mathlib.Core.Bool.{Bool, true, false, cond}
use mathlib.Core.List.{List, [], ◌++◌}
use lib.Dec.{eqb}
use lib.ListN.{length}
use Rattle.plain_bus.specs.Held.{Node, discards, with_pending, enqueue}
use Rattle.plain_bus.specs.Order.{Entry}
use Rattle.plain_bus.specs.Round.{Injection, no_error, injected, news_for, without, losers, lost_notices, told, stay, owed, settle}
use Rattle.bus_state.specs.Memory.{Memory, frame_at, frames_from, node_view}
use Rattle.bus_model.specs.Primitives.{entry_at, drop_frames, remove_frame}
use Rattle.bus_model.specs.Round.{discards_at, news_at, notices_from, notices_at, without_winner, owed_at, without_losers, settle_at}
use Rattle.bus_model.specs.Refines.{Sized}
use Rattle.bus_model.proofs.Views.{Fits, entry_view, queue_filled}
use Rattle.bus_model.proofs.Touched.{Tidy, Touched, touched_trans, touched_as, untouched, entry_touched, append_touched, remove_touched}

news_view : (e : Injection) (w : Entry) (m : Memory) (j : ℕ) → news_at e w m j ≡ news_for e w j (node_view m j)
unfolding news_at news_for node_view
news_view no_error w m j = refl
news_view (injected code detector) w m j = refl

notices_frames : (m : Memory) (n p : ℕ) → notices_from m p n ≡ lost_notices (frames_from m p n)
unfolding notices_from lost_notices frames_from frame_at
notices_frames m zero p = refl
notices_frames m (suc n) p = rw (notices_frames m n (suc p))

notices_view : (m : Memory) (j : ℕ) → notices_at m j ≡ cond (discards (node_view m j)) (lost_notices (node_view m j).pending) []
unfolding notices_at node_view
notices_view m j = rw (notices_frames m (entry_at m j).pending (4 * j))

drop_touched : (m : Memory) (j : ℕ) → Sized m → j < 8 → Tidy m j
    → Touched m (without_losers m j) j (cond (discards (node_view m j)) (with_pending (node_view m j) []) (node_view m j))
unfolding without_losers drop_frames node_view entry_view frames_from
drop_touched m j s h t = go (discards_at m j)
  where
    go : (c : Bool) → Touched m (cond c (drop_frames m j) m) j (cond c (with_pending (node_view m j) []) (node_view m j))
    go true = entry_touched m s j h t.owned _ t.fill (omega arith)
    go false = untouched m j s t

module _ (m : Memory) (s : Sized m) (j : ℕ) (h : j < 8) (f : Fits m j) (t : Tidy m j) (w : Entry)
    (placed : eqb j w.owner ≡ true → w.position < (entry_at m j).pending) where
  -- the winner is removed
  winner_touched : Touched m (without_winner w m j) j (with_pending (node_view m j) (losers w j (node_view m j)))
  unfolding without_winner losers
  winner_touched = go (eqb j w.owner) refl
    where
      go : (c : Bool) → eqb j w.owner ≡ c
          → Touched m (cond c (remove_frame m j w.position) m) j
          (with_pending (node_view m j) (cond c (without w.position (node_view m j).pending) (node_view m j).pending))
      go true e = remove_touched m s j h t.owned w.position f t.fill (placed e)
      go false e = untouched m j s t

  -- what the node is owed
  pub owed-view : (e : Injection) → owed_at e w m j ≡ owed e w j (node_view m j)
  unfolding owed_at owed told lost_notices
  owed-view e =
      rw (news_view e w m j, notices_view (without_winner w m j) j, winner_touched.own)
      (ap (λ (l : List ℕ). news_for e w j (node_view m j) ++ l) (go (discards (node_view m j))))
    where
      go : (c : Bool) → cond c (lost_notices (losers w j (node_view m j))) [] ≡ lost_notices (cond c (losers w j (node_view m j)) [])
      go true = refl
      go false = refl

  -- the losers are removed too
  losers_touched : Touched m (without_losers (without_winner w m j) j) j (with_pending (node_view m j) (stay w j (node_view m j)))
  unfolding stay
  losers_touched =
      touched_trans winner_touched
      (touched_as (drop_touched (without_winner w m j) j winner_touched.sized h winner_touched.tidy)
      (rw winner_touched.own (go (discards (node_view m j)))))
    where
      go : (c : Bool)
          → cond c (with_pending (node_view m j) []) (with_pending (node_view m j) (losers w j (node_view m j)))
          ≡ with_pending (node_view m j) (cond c [] (losers w j (node_view m j)))
      go true = refl
      go false = refl

  -- all of it
  pub settle_touched : (e : Injection) → (entry_at m j).fill + length (owed e w j (node_view m j)) ≤ 4_096
      → Touched m (settle_at e w m j) j (settle e w j (node_view m j))
  unfolding settle_at settle
  settle_touched e room =
      let l = losers_touched in
      let fill : (entry_at (without_losers (without_winner w m j) j) j).fill ≡ (entry_at m j).fill =
      sym (queue_filled (without_losers (without_winner w m j) j) j l.sized h l.tidy.fill)
      ∙ ap (λ (d : Node). length d.queue) l.own
      ∙ queue_filled m j s h t.fill in
      let o = owed-view e in
      rw o
      (touched_trans l
      (touched_as
      (append_touched (without_losers (without_winner w m j) j) l.sized j h l.tidy.owned (owed e w j (node_view m j)) (rw fill room))
      (ap (λ (d : Node). enqueue d (owed e w j (node_view m j))) l.own)))
