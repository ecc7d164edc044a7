-- The keys: one that is made of a winner is read as it is made, and the lower of two is that of the better frame.
-- Assumes nothing.
use mathlib.Core.Path.{◌≡◌, refl, sym}
use mathlib.Core.Bool.{Bool, true, false, cond, ◌&&◌, ◌||◌}
use Rattle.std.specs.Prelude.{Option, Some, None}
use Prim.Native.Nat.{ℕ, ◌+◌, ◌*◌, ◌-◌, ◌/◌, ◌%◌, ◌≤◌, ◌<◌}
use native.Mathlib.Omega.{arith}
use lib.Dec.{leb, ltb, eqb}
use borrow.Author.Tests.{lt-leb, lt-ltb, le-ltb, ltb-true, ltb-false, eqb-true, eqb-false, ne_eqb}
use Rattle.operation.proofs.Tests.{false_is_true}
use Rattle.plain_bus.specs.Order.{lower_or}
use Rattle.scan.specs.declared.Winner.{Winner}
use Rattle.scan.specs.Winner.{before, better, owner_of, Small}
use Rattle.scan.specs.Scan.{frame_key, no_frame, key_of, winner_block, lower_of}

-- a frame as the winner
abbrev frame : ℕ → ℕ → ℕ → Option Winner
frame r o p = Some (record { rank = r; owner = o; position = p })

-- ---- read as they are made

pub no_frame_lem : (w : Option Winner) → Small w → no_frame ≤ key_of w → None ≡ w
unfolding key_of
no_frame_lem None s h = refl
no_frame_lem (Some w) s h = absurd (omega (arith, s.0, s.1, s.2))

pub winner_read : (w : Option Winner) (k : ℕ) → Small w → key_of w ≡ k → 1 ≤ k → k < no_frame
    → frame ((k - 1) / 32) ((k - 1) % 32 / 4) ((k - 1) % 32 % 4) ≡ w
unfolding key_of
winner_read None k s e h l = absurd (omega arith)
winner_read (Some w) k s e h l =
    let a : (k - 1) / 32 ≡ w.rank = omega (arith, s.1, s.2) in
    let b : (k - 1) % 32 / 4 ≡ w.owner = omega (arith, s.1, s.2) in
    let c : (k - 1) % 32 % 4 ≡ w.position = omega (arith, s.1, s.2) in
    rw (a, b, c)

pub some_key : (k : ℕ) → (eqb k 0 || leb no_frame k) ≡ false → 1 ≤ k
some_key k e = go (eqb k 0) refl e
  where
    go : (t : Bool) → eqb k 0 ≡ t → (t || leb no_frame k) ≡ false → 1 ≤ k
    go true q e = false_is_true (sym e)
    go false q e = omega (arith, eqb-false k 0 q)

frame-block : (r o p k : ℕ) → frame_key r (4 * o + p) ≡ k → r < 4_294_967_296 → o < 8 → p < 4 → winner_block k ≡ 4 * o
unfolding winner_block
frame-block r o p k e hr ho hp =
    let place : 4 * ((k - 1) % 32 / 4) ≡ 4 * o = omega arith in
    rw (ne_eqb k 0 (λ z. omega arith), lt-leb no_frame k (omega arith)) place

pub block_of : (w : Option Winner) → Small w → winner_block (key_of w) ≡ 4 * owner_of w
unfolding key_of winner_block
block_of None s = refl
block_of (Some w) s = frame-block w.rank w.owner w.position (key_of (Some w)) refl s.0 s.1 s.2

-- ---- the order by the keys is the order among frames

module _ (r o p r₁ o₁ p₁ : ℕ) (ho : o < 8) (hp : p < 4) (ho₁ : o₁ < 8) (hp₁ : p₁ < 4) where
  abbrev Below : Bool → Type 0
  Below t = ltb (frame_key r (4 * o + p)) (frame_key r₁ (4 * o₁ + p₁)) ≡ t

  lower : frame_key r (4 * o + p) < frame_key r₁ (4 * o₁ + p₁) → Below true
  lower h = lt-ltb (frame_key r (4 * o + p)) (frame_key r₁ (4 * o₁ + p₁)) h

  not_lower : frame_key r₁ (4 * o₁ + p₁) ≤ frame_key r (4 * o + p) → Below false
  not_lower h = le-ltb (frame_key r (4 * o + p)) (frame_key r₁ (4 * o₁ + p₁)) h

  by_position : r ≡ r₁ → o ≡ o₁ → (t : Bool) → ltb p p₁ ≡ t → Below t
  by_position e f true q = lower (omega (arith, ltb-true p p₁ q))
  by_position e f false q = not_lower (omega (arith, ltb-false p p₁ q))

  by_node : r ≡ r₁ → (t : Bool) → ltb o o₁ ≡ t → (u : Bool) → eqb o o₁ ≡ u → Below (t || u && ltb p p₁)
  by_node e true q u f = lower (omega (arith, ltb-true o o₁ q))
  by_node e false q true f = by_position e (eqb-true o o₁ f) (ltb p p₁) refl
  by_node e false q false f = not_lower (apart (ltb-false o o₁ q) (eqb-false o o₁ f))
    where
      apart : o₁ ≤ o → (o ≡ o₁ → ⊥) → frame_key r₁ (4 * o₁ + p₁) ≤ frame_key r (4 * o + p)
      apart h n = omega (arith, n)

  by_rank : (t : Bool) → ltb r r₁ ≡ t → (u : Bool) → eqb r r₁ ≡ u → Below (t || u && lower_or o o₁ (ltb p p₁))
  by_rank true q u f = lower (omega (arith, ltb-true r r₁ q))
  by_rank false q true f = by_node (eqb-true r r₁ f) (ltb o o₁) refl (eqb o o₁) refl
  by_rank false q false f = not_lower (omega (arith, ltb-false r r₁ q, eqb-false r r₁ f))

  pub key_order : Below (before r o p r₁ o₁ p₁)
  key_order = by_rank (ltb r r₁) refl (eqb r r₁) refl

module _ (r o p : ℕ) where
  pub key_better : (w : Option Winner) → Small w → r < 4_294_967_296 → o < 8 → p < 4 → lower_of (frame_key r (4 * o + p)) (key_of w) ≡ key_of (better w r o p)
  unfolding key_of better
  key_better None s hr ho hp = rw (lt-ltb (frame_key r (4 * o + p)) no_frame (omega arith))
  key_better (Some w) s hr ho hp = rw (key_order r o p w.rank w.owner w.position ho hp s.1 s.2) (go (before r o p w.rank w.owner w.position))
    where
      go : (t : Bool) → cond t (key_of (frame r o p)) (key_of (Some w)) ≡ key_of (cond t (frame r o p) (Some w))
      go true = refl
      go false = refl

  pub better_small : (w : Option Winner) → Small w → r < 4_294_967_296 → o < 8 → p < 4 → Small (better w r o p)
  unfolding better
  better_small None s hr ho hp = (hr, ho, hp)
  better_small (Some w) s hr ho hp = go (before r o p w.rank w.owner w.position)
    where
      go : (t : Bool) → Small (cond t (frame r o p) (Some w))
      go true = (hr, ho, hp)
      go false = s
