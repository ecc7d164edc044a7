-- How a round ends: what each way to end it comes to, as the model answers.
-- Assumes nothing.
use mathlib.Core.Path.{◌≡◌}
use mathlib.Core.Bool.{Bool, true, false}
use mathlib.Core.List.{List}
use Rattle.std.specs.Prelude.{Option, None, Some}
use Prim.Native.Nat.{ℕ, ◌+◌, ◌-◌, ◌*◌, ◌≤◌, ◌<◌}
use lib.ListN.{length, get_or}
use borrow.Author.Tests.{le-leb, lt-leb}
use Rattle.operation.specs.Format.{data_length, length_of}
use Rattle.operation.specs.Kinds.{id_of}
use Rattle.buffers.specs.Parts.{part}
use Rattle.slots.specs.Slots.{free_slot}
use Rattle.slots.specs.Blocks.{set_block}
use Rattle.slots.specs.declared.Slot.{Slot}
use Rattle.plain_bus.specs.Held.{last_round}
use Rattle.plain_bus.specs.Order.{wins}
use Rattle.plain_bus.specs.Round.{is_errored}
use Rattle.bus_state.specs.Memory.{Memory, payload_bytes, queue_bytes, node_state, held, frame_at}
use Rattle.bus_state.specs.declared.State.{State}
use Rattle.bus_model.specs.Round.{pending_at, owed_at}
use Rattle.bus_model.specs.Submit.{room_for_each}
use Rattle.bus_model.specs.Calls.{arbitrate_in, rounded}
use Rattle.bus_model.specs.Refines.{Sized}
use Rattle.outcome.specs.Ended.{Ended, ended}
use Rattle.outcome.specs.Outcome.{Outcome}
use Rattle.outcome.specs.declared.Refusal.TheVariants.{BadInjection, QueueFull, RoundsUsedUp}
use Rattle.outcome.specs.declared.Done.TheVariants.{Idle, Carried}
use Rattle.std.specs.Prelude.{Ok, Err}
use Rattle.arbitration.specs.declared.Injection.{Injection}
use Rattle.arbitration.specs.Injections.{injection_of, is_wrong}
use Rattle.scan.specs.declared.Winner.{Winner}
use Rattle.scan.specs.Winner.{held_at, best_in}
use Rattle.arbitration.specs.Drawn.{Drawn}
use Rattle.arbitration.specs.Owed.{room_from}
use Rattle.arbitration.specs.After.{state_after, queues_after, block_without, payload_without}
use Rattle.arbitration.specs.Round.{carried_out}
use Rattle.arbitration.proofs.Agrees.{room_is}
use Rattle.arbitration.proofs.Carried.{after_is}
use Rattle.arbitration.proofs.Given.{pending_at_lem, winner-slot}
use Rattle.arbitration.proofs.Places.{nobody-wins, first-wins}
use Rattle.arbitration.proofs.Wrong.{wrong_is}

-- an outcome with the memory as it was
abbrev pub kept : Outcome → Memory → Ended
kept o m = record { outcome = o; memory = m }

-- ---- before the winner is known to have room

module _ (s : State) (a : List Slot) (payload queues : List ℕ) (e : Option Injection) where
  abbrev memory : Memory
  memory = held s a payload queues

  pub wrong_ended : is_wrong s e ≡ true → kept (Err BadInjection) memory ≡ ended (rounded memory (injection_of e))
  unfolding rounded
  wrong_ended q = rw (wrong_is memory e, q)

  pub idle_ended : is_wrong s e ≡ false → best_in s a ≡ None → kept (Ok Idle) memory ≡ ended (rounded memory (injection_of e))
  unfolding rounded arbitrate_in
  idle_ended q n = rw (wrong_is memory e, q, nobody-wins memory n)

  pub won-ended : {w : Winner} → is_wrong s e ≡ false → best_in s a ≡ Some w
      → ended (arbitrate_in memory (injection_of e) (wins (pending_at memory w.owner w.position))) ≡ ended (rounded memory (injection_of e))
  unfolding rounded
  won-ended q f = rw (wrong_is memory e, q, (first-wins memory f).winner)

-- ---- the winner is pending

module _ (s : State) (a : List Slot) (payload queues : List ℕ) (e : Option Injection) (w : Winner) (four : List Slot) (ids : List ℕ)
    (eight : length s.nodes ≡ 8) (lent : (length payload ≡ payload_bytes) × (length queues ≡ queue_bytes))
    (d : Drawn s a (Some w) four ids) where
  abbrev m : Memory
  m = held s a payload queues

  sized : Sized m
  sized = record { slots = d.slots; payload = lent.0; queues = lent.1; nodes = eight }

  abbrev size : ℕ
  size = length_of (held_at four w.position)

  -- the room test is the model's
  room : room_for_each (owed_at (injection_of e) (pending_at m w.owner w.position) m) m 0 s.count ≡ room_from e s.nodes w.owner size 0 s.count
  room = rw (winner-slot d) (room_is s a payload queues e w.owner w.position sized d.valid (pending_at_lem d) ids d.named)

  abbrev answered : Ended
  answered = ended (arbitrate_in m (injection_of e) (wins (pending_at m w.owner w.position)))

  pub full-ended : room_from e s.nodes w.owner size 0 s.count ≡ false → kept (Err QueueFull) m ≡ answered
  unfolding arbitrate_in
  full-ended q = rw (room, q)

  pub used_up_ended : room_from e s.nodes w.owner size 0 s.count ≡ true → 4_294_967_295 ≤ s.round → kept (Err RoundsUsedUp) m ≡ answered
  unfolding arbitrate_in
  used_up_ended q l = rw (room, q, le-leb last_round s.round l)

  pub carried-ended : room_from e s.nodes w.owner size 0 s.count ≡ true → s.round < 4_294_967_295
      → ended (carried_out m (injection_of e) (pending_at m w.owner w.position)) ≡ answered
  unfolding arbitrate_in
  carried-ended q l = rw (room, q, lt-leb last_round s.round l)

  -- what carries a round out comes to the model's answer and memory
  pub done-ended : {id : ℕ} {errored : Bool} {state : State} {block : List Slot} {payload' queues' : List ℕ}
      → room_from e s.nodes w.owner size 0 s.count ≡ true → id ≡ id_of (held_at four w.position)
      → errored ≡ is_errored (injection_of e) → state ≡ state_after e s w.owner size
      → block ≡ block_without four w.position ((node_state s w.owner).pending - 1)
      → payload' ≡ payload_without four (4 * w.owner) w.position ((node_state s w.owner).pending - 1 - w.position) payload
      → queues'
      ≡ queues_after e s.nodes w.owner w.position (held_at four w.position) ids
      (part (2_048 * (4 * w.owner + w.position)) (data_length (held_at four w.position)) payload) 0 s.count queues
      → ◌≡◌ {A = Ended}
      (record {
        outcome = Ok (Carried w.owner id errored (s.round - (get_or four w.position free_slot).accepted));
        memory = held state (set_block a (4 * w.owner) block) payload' queues';
      })
      (ended (carried_out m (injection_of e) (pending_at m w.owner w.position)))
  unfolding frame_at
  done-ended r i f g b p q =
      rw (
        i,
        f,
        g,
        b,
        p,
        q,
        winner-slot d,
        d.block,
        after_is s a payload queues e w.owner w.position sized d.valid (pending_at_lem d) ids d.named (rw (winner-slot d) at r),
      )
