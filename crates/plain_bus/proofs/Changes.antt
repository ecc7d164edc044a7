-- What one step of a call does to one node, with what it does to the register of that node.
-- Every law about all calls goes by these eight cases.
-- Assumes nothing.
use mathlib.Core.Path.{◌≡◌}
use Prim.Native.Nat.{ℕ, ◌+◌, ◌≤◌, ◌<◌}
use mathlib.Core.Bool.{Bool, true, false}
use mathlib.Core.List.{List, []}
use lib.Dec.{eqb}
use lib.ListN.{length, get_or}
use Rattle.operation.specs.Rules.{one_of, error_codes, legal}
use Rattle.operation.specs.declared.Operation.{Operation}
use Rattle.operation.specs.declared.Operation.TheVariants.{Configuration, Status}
use Rattle.operation.specs.Kinds.{id_of}
use Rattle.plain_bus.specs.Closing.{closes}
use Rattle.plain_bus.specs.Held.{Frame, Node, max_pending, queue_capacity, bus_off, is_off, with_queue, enqueue}
use Rattle.plain_bus.specs.Submit.{accept, configure, set_status}
use Rattle.plain_bus.specs.Order.{Entry}
use Rattle.plain_bus.specs.Round.{Injection, no_error, injected, owed, settle}
use Rattle.plain_bus.proofs.ValidBus.{ReadsWhole, ValidFrame}
use Rattle.plain_bus.specs.Register.{Register, Update, updated, open_id, note_status, read}

-- an injection whose code is in the table
abbrev pub LegalInjection : Injection → Type 0
LegalInjection no_error = Unit {0}
LegalInjection (injected code detector) = one_of code error_codes ≡ true

-- the winner stands among the pending frames of its own node d
pub record Own (w : Entry) (d : Node) : Type 0 where
  pub placed : w.position < length d.pending
  pub held : get_or d.pending w.position w.frame ≡ w.frame

-- the round number before and after; whether a Status Bus-Off cleared the node; what the register's call does; the node
-- before and after
pub data Change : ℕ → ℕ → Bool → (Register → Update) → Node → Node → Type 0 where
  still : {now : ℕ} {d : Node} → Change now now false updated d d
  ignored : {now : ℕ} {d : Node} (id : ℕ) → is_off d ≡ true → Change now now false (λ x. open_id x id) d d
  joined : {now : ℕ} {d : Node} (f : Frame) → is_off d ≡ false → length d.pending < max_pending → ValidFrame f
      → f.accepted ≡ now → Change now now false (λ x. open_id x (id_of f.op)) d (accept d f)
  configured : {now : ℕ} {d : Node} (kind value : ℕ) → legal (Configuration kind value) ≡ true
      → Change now now false updated d (configure d kind value)
  status_set : {now : ℕ} {d : Node} (status : ℕ) → legal (Status status) ≡ true
      → Change now now (eqb status bus_off) (λ x. updated (note_status x status)) d (set_status d status)
  answered : {now : ℕ} {d : Node} (op : Operation) (bytes : List ℕ) → ReadsWhole op bytes → closes op ≡ false
      → length d.queue + length bytes ≤ queue_capacity → Change now now false updated d (enqueue d bytes)
  settled : {now : ℕ} {d : Node} (e : Injection) (w : Entry) (j : ℕ) → LegalInjection e → ValidFrame w.frame
      → (eqb j w.owner ≡ true → Own w d) → length d.queue + length (owed e w j d) ≤ queue_capacity
      → Change now (now + 1) false updated d (settle e w j d)
  collected : {now : ℕ} {d : Node} → Change now now false (λ x. read x d.queue) d (with_queue d [])
