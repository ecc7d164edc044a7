-- What a call comes to, in five cases: refused, idle, or done. The one place where the order of the refusals is taken apart.
-- Assumes nothing.
use mathlib.Core.Path.{◌≡◌, refl}
use Prim.Native.Nat.{ℕ, ◌<◌}
use mathlib.Core.Bool.{Bool, true, false, cond, not}
use mathlib.Core.List.{List, []}
use lib.Dec.{leb, ltb}
use lib.ListN.{length}
use borrow.Author.Tests.{leb-false, ltb-true}
use Rattle.decoder.specs.Stream.{items_of}
use Rattle.plain_bus.specs.Held.{Bus, last_round, attached, node_at, with_node, with_queue, all_have_room}
use Rattle.plain_bus.specs.Refusal.{Refusal, not_attached, buffer_too_long, bad_injection, queue_full, rounds_used_up, room_too_small}
use Rattle.plain_bus.specs.Submit.{Step, done, fails, take_items}
use Rattle.plain_bus.specs.Order.{Entry, Winner, nobody, wins, winner}
use Rattle.plain_bus.specs.Round.{Injection, is_errored, winner_id, owed, after_round, age}
use Rattle.plain_bus.specs.Calls.{accepted, idle, carried, collected, Outcome, gives, refuses, max_submit, taken_whole, submit, wrong_injection, arbitrate, run_round, collect}
use Rattle.plain_bus.specs.Session.{Call, submission, round, collection, call}

pub data Came (b : Bus) : Call → Outcome → Type 0 where
  turned_down : {c : Call} (r : Refusal) → Came b c (refuses r b)
  idled : (e : Injection) → winner b ≡ nobody → Came b (round e) (gives idle b)
  took : (k : ℕ) (buffer : List ℕ) (b' : Bus) → k < length b.nodes → take_items k (items_of buffer) (done b) ≡ done b'
      → Came b (submission k buffer) (gives accepted b')
  carried_out : (e : Injection) (w : Entry) → wrong_injection b e ≡ false → winner b ≡ wins w
      → all_have_room (owed e w) b ≡ true → b.round < last_round
      → Came b (round e) (gives (carried w.owner (winner_id w) (is_errored e) (age b w)) (after_round e w b))
  handed_over : (k room : ℕ) → k < length b.nodes
      → Came b (collection k room) (gives (collected (node_at b k).queue) (with_node b k (with_queue (node_at b k) [])))

pub came : (b : Bus) (c : Call) → Came b c (call b c)
unfolding call submit run_round arbitrate collect
came b (submission k buffer) =
    go (attached b k) refl (ltb max_submit (length buffer)) (take_items k (items_of buffer) (done b)) refl
  where
    go : (t : Bool) → attached b k ≡ t → (u : Bool) (s : Step) → take_items k (items_of buffer) (done b) ≡ s
        → Came b (submission k buffer)
        (cond (not t) (refuses not_attached b) (cond u (refuses buffer_too_long b) (taken_whole b s)))
    go false q u s e = turned_down not_attached
    go true q true s e = turned_down buffer_too_long
    go true q false (fails r) e = turned_down r
    go true q false (done c) e = took k buffer c (ltb-true k (length b.nodes) q) e
came b (round e) = go (wrong_injection b e) refl (winner b) refl
  where
    won : (w : Entry) → wrong_injection b e ≡ false → winner b ≡ wins w
        → (t : Bool) → all_have_room (owed e w) b ≡ t → (u : Bool)
        → leb last_round b.round ≡ u
        → Came b (round e)
        (cond (not t) (refuses queue_full b)
        (cond u (refuses rounds_used_up b)
        (gives (carried w.owner (winner_id w) (is_errored e) (age b w)) (after_round e w b))))
    won w l q false qt u qu = turned_down queue_full
    won w l q true qt true qu = turned_down rounds_used_up
    won w l q true qt false qu = carried_out e w l q qt (leb-false last_round b.round qu)

    go : (t : Bool) → wrong_injection b e ≡ t → (x : Winner) → winner b ≡ x
        → Came b (round e) (cond t (refuses bad_injection b) (arbitrate b e x))
    go true l x q = turned_down bad_injection
    go false l nobody q = idled e q
    go false l (wins w) q =
        won w l q (all_have_room (owed e w) b) refl (leb last_round b.round) refl
came b (collection k room) = go (attached b k) refl (ltb room (length (node_at b k).queue))
  where
    go : (t : Bool) → attached b k ≡ t → (u : Bool)
        → Came b (collection k room)
        (cond (not t) (refuses not_attached b)
        (cond u (refuses room_too_small b)
        (gives (collected (node_at b k).queue) (with_node b k (with_queue (node_at b k) [])))))
    go false q u = turned_down not_attached
    go true q true = turned_down room_too_small
    go true q false = handed_over k room (ltb-true k (length b.nodes) q)
