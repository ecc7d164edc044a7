-- What a round is given of the slots, by the key of the pass.
-- Assumes nothing.
use mathlib.Core.Path.{◌≡◌, sym, ap, ◌∙◌}
use mathlib.Core.List.{List}
use Rattle.std.specs.Prelude.{Option}
use Prim.Native.Nat.{ℕ, ◌*◌}
use Rattle.slots.specs.Blocks.{block_at}
use Rattle.slots.specs.declared.Slot.{Slot}
use Rattle.bus_state.specs.declared.State.{State}
use Rattle.scan.specs.declared.Winner.{Winner}
use Rattle.scan.specs.Winner.{best_in, owner_of, Small}
use Rattle.scan.specs.Scan.{key_of, winner_block}
use Rattle.scan.proofs.Keys.{block_of}
use Rattle.scan.proofs.Scanned.{winner_key, winner_small}
use Rattle.arbitration.specs.Drawn.{Drawn}
use Rattle.bus.specs.Given.{Taken}
use Rattle.bus.proofs.Lending.{valid_by_key}

module _ {s : State} {key : ℕ} {four : List Slot} {ids : List ℕ} {a : List Slot} (h : Taken s key four ids a) where
  pub drawn : (key ≡ 0 → ⊥) → {best : Option Winner} → ((w : Option Winner) → Small w → key_of w ≡ key → best ≡ w) → Drawn s a best four ids
  drawn n {best} read =
      let v = valid_by_key h.scan n in
      let small = winner_small s a v in
      let e : key_of (best_in s a) ≡ key = winner_key s a v ∙ h.scan.key-is in
      let b : best ≡ best_in s a = read (best_in s a) small e in
      let w : winner_block key ≡ 4 * owner_of best = ap winner_block (sym e) ∙ block_of (best_in s a) small ∙ ap (λ (z : Option Winner). 4 * owner_of z) (sym b) in
      record {
        slots = h.scan.slots;
        valid = v;
        first = b;
        block = sym h.block ∙ ap (block_at a) w;
        named = sym h.named;
      }
