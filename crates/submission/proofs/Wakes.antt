-- Laws of Wakeups on the entries of all nodes: one node at a time, then what they leave at each node.
-- Assumes nothing.
use mathlib.Core.Path.{◌≡◌, refl, sym, ap, ◌∙◌}
use mathlib.Core.Bool.{Bool, true, false, cond, ◌&&◌}
use mathlib.Core.List.{List}
use Prim.Native.Nat.{ℕ, zero, suc, ◌+◌, ◌*◌, ◌-◌, ◌≤◌, ◌<◌}
use native.Mathlib.Omega.{arith}
use lib.Dec.{leb, eqb, ltb}
use lib.ListN.{length, get_or, set, length-set}
use lib.Seq.{get_or-set_same, get_or-set_other, set-get_or, ext_get_or}
use borrow.Author.Tests.{leb-true, le-leb, lt-leb, eqb-true, eqb-false, ltb-true, ltb-false, eq-eqb}
use Rattle.operation.proofs.Tests.{both}
use Rattle.bus_state.specs.Memory.{bytes_per_queue, no_node}
use Rattle.bus_state.specs.declared.NodeState.{NodeState}
use Rattle.submission.specs.Counting.{unreached, wakeup_length, fill_woken, entry_woken, wakeup_room, woken_from}
use Rattle.submission.specs.Carrying.{wakeup_laid, wakeups_laid}

-- ---- two lists of entries that are alike from node j on

module _ (a b : List NodeState) (k u v : ℕ) where
  pub room_alike : (j n : ℕ)
      → ((i : ℕ) → j ≤ i → i < j + n
      → leb (fill_woken (get_or a i no_node) k u i) bytes_per_queue ≡ leb (fill_woken (get_or b i no_node) k v i) bytes_per_queue)
      → wakeup_room a k u j n ≡ wakeup_room b k v j n
  unfolding wakeup_room
  room_alike j zero e = refl
  room_alike j (suc n) e = rw (e j (omega arith) (omega arith), room_alike (suc j) n (λ i l h. e i (omega arith) (omega arith)))

  pub laid_alike : (j n : ℕ) (queues : List ℕ)
      → ((i : ℕ) → j ≤ i → i < j + n → (q : List ℕ) → wakeup_laid (get_or a i no_node) k u i q ≡ wakeup_laid (get_or b i no_node) k v i q)
      → wakeups_laid a k u j n queues ≡ wakeups_laid b k v j n queues
  unfolding wakeups_laid
  laid_alike j zero queues e = refl
  laid_alike j (suc n) queues e =
      rw (e j (omega arith) (omega arith) queues) (laid_alike (suc j) n _ (λ i l h. e i (omega arith) (omega arith)))

-- ---- going over the nodes, of which `count` are attached

module _ (nodes : List NodeState) (k u j count : ℕ) where
  room_step : j < count
      → wakeup_room nodes k u j (count - j)
      ≡ (leb (fill_woken (get_or nodes j no_node) k u j) bytes_per_queue && wakeup_room nodes k u (suc j) (count - suc j))
  unfolding wakeup_room
  room_step h =
      let n : count - j ≡ suc (count - suc j) = omega arith in
      ap (λ (i : ℕ). wakeup_room nodes k u j i) n

  pub room-end : count ≤ j → wakeup_room nodes k u j (count - j) ≡ true
  unfolding wakeup_room
  room-end h =
      let n : count - j ≡ 0 = omega arith in
      ap (λ (i : ℕ). wakeup_room nodes k u j i) n

  pub room_bad : j < count → bytes_per_queue < fill_woken (get_or nodes j no_node) k u j → wakeup_room nodes k u j (count - j) ≡ false
  room_bad h e = room_step h ∙ rw (lt-leb _ bytes_per_queue e)

  pub room-good : j < count → fill_woken (get_or nodes j no_node) k u j ≤ bytes_per_queue
      → wakeup_room nodes k u j (count - j) ≡ wakeup_room nodes k u (suc j) (count - suc j)
  room-good h e = room_step h ∙ rw (le-leb _ bytes_per_queue e)

  pub room-here : j < count → wakeup_room nodes k u j (count - j) ≡ true
      → (fill_woken (get_or nodes j no_node) k u j ≤ bytes_per_queue) × (wakeup_room nodes k u (suc j) (count - suc j) ≡ true)
  room-here h e =
      let p = both (leb (fill_woken (get_or nodes j no_node) k u j) bytes_per_queue) _ (sym (room_step h) ∙ e) in
      (leb-true _ bytes_per_queue p.0, p.1)

  -- a change at node j leaves the room of those behind it
  pub room-past : (x : NodeState) → j < count → wakeup_room nodes k u j (count - j) ≡ true → wakeup_room (set nodes j x) k u (suc j) (count - suc j) ≡ true
  room-past x h e =
      room_alike (set nodes j x) nodes k u u (suc j) (count - suc j) (λ i l g. rw (get_or-set_other nodes j i x no_node (λ q. omega arith)))
      ∙ (room-here h e).1

  pub woken_step : j < count
      → woken_from nodes k u j (count - j) ≡ woken_from (set nodes j (entry_woken (get_or nodes j no_node) k u j)) k u (suc j) (count - suc j)
  unfolding woken_from
  woken_step h =
      let n : count - j ≡ suc (count - suc j) = omega arith in
      ap (λ (i : ℕ). woken_from nodes k u j i) n

  pub woken_end : count ≤ j → woken_from nodes k u j (count - j) ≡ nodes
  unfolding woken_from
  woken_end h =
      let n : count - j ≡ 0 = omega arith in
      ap (λ (i : ℕ). woken_from nodes k u j i) n

  pub laid_step : (queues : List ℕ) → j < count
      → wakeups_laid nodes k u j (count - j) queues ≡ wakeups_laid nodes k u (suc j) (count - suc j) (wakeup_laid (get_or nodes j no_node) k u j queues)
  unfolding wakeups_laid
  laid_step queues h =
      let n : count - j ≡ suc (count - suc j) = omega arith in
      ap (λ (i : ℕ). wakeups_laid nodes k u j i queues) n

  pub laid_end : (queues : List ℕ) → count ≤ j → wakeups_laid nodes k u j (count - j) queues ≡ queues
  unfolding wakeups_laid
  laid_end queues h =
      let n : count - j ≡ 0 = omega arith in
      ap (λ (i : ℕ). wakeups_laid nodes k u j i queues) n

-- ---- one entry

module _ (d : NodeState) (k i : ℕ) where
  -- none of them changes nothing
  pub fill_none : fill_woken d k 0 i ≡ d.fill
  unfolding wakeup_length
  fill_none = go (unreached d.status k i)
    where
      go : (t : Bool) → d.fill + 0 * cond t 0 8 ≡ d.fill
      go true = omega arith
      go false = omega arith

  entry-none : entry_woken d k 0 i ≡ d
  entry-none = rw fill_none

  -- one more behind u of them
  pub fill-next : (u : ℕ) → fill_woken (entry_woken d k u i) k 1 i ≡ fill_woken d k (u + 1) i
  unfolding wakeup_length
  fill-next u = go (unreached d.status k i)
    where
      go : (t : Bool) → d.fill + u * cond t 0 8 + 1 * cond t 0 8 ≡ d.fill + (u + 1) * cond t 0 8
      go true = omega arith
      go false = omega arith

-- none goes to the sender
pub self_length : (status k : ℕ) → wakeup_length status k k ≡ 0
unfolding wakeup_length
self_length status k = rw (eq-eqb k k refl)

pub self_fill : (d : NodeState) (k u : ℕ) → fill_woken d k u k ≡ d.fill
self_fill d k u = rw (self_length d.status k) (omega arith)

self_entry : (d : NodeState) (k u : ℕ) → entry_woken d k u k ≡ d
self_entry d k u = rw (self_fill d k u)

self_laid : (d : NodeState) (k u : ℕ) (q : List ℕ) → wakeup_laid d k u k q ≡ q
unfolding wakeup_laid
self_laid d k u q = rw (eq-eqb k k refl)

-- behind u of them it is laid as the first is behind the entry with u of them
laid_behind : (d : NodeState) (k u i : ℕ) (q : List ℕ) → wakeup_laid (entry_woken d k u i) k 0 i q ≡ wakeup_laid d k u i q
unfolding wakeup_laid
laid_behind d k u i q = rw (fill_none (entry_woken d k u i) k i)

-- ---- what they leave at each node

module _ (k u : ℕ) where
  -- the entries with that of node j woken
  abbrev woken_at : List NodeState → ℕ → List NodeState
  woken_at nodes j = set nodes j (entry_woken (get_or nodes j no_node) k u j)

  pub woken_length : (nodes : List NodeState) (j n : ℕ) → length (woken_from nodes k u j n) ≡ length nodes
  unfolding woken_from
  woken_length nodes j zero = refl
  woken_length nodes j (suc n) = woken_length (woken_at nodes j) (suc j) n ∙ length-set nodes j _

  woken_before : (nodes : List NodeState) (j n i : ℕ) → i < j → get_or (woken_from nodes k u j n) i no_node ≡ get_or nodes i no_node
  unfolding woken_from
  woken_before nodes j zero i h = refl
  woken_before nodes j (suc n) i h =
      woken_before (woken_at nodes j) (suc j) n i (omega arith) ∙ get_or-set_other nodes j i _ no_node (λ e. omega arith)

  woken_behind : (nodes : List NodeState) (j n i : ℕ) → j + n ≤ i → get_or (woken_from nodes k u j n) i no_node ≡ get_or nodes i no_node
  unfolding woken_from
  woken_behind nodes j zero i h = refl
  woken_behind nodes j (suc n) i h =
      woken_behind (woken_at nodes j) (suc j) n i (omega arith) ∙ get_or-set_other nodes j i _ no_node (λ e. omega arith)

  woken_there : (nodes : List NodeState) (j n i : ℕ) → j ≤ i → i < j + n → i < length nodes
      → get_or (woken_from nodes k u j n) i no_node ≡ entry_woken (get_or nodes i no_node) k u i
  unfolding woken_from
  woken_there nodes j zero i l h g = absurd (omega arith)
  woken_there nodes j (suc n) i l h g =
      go (eqb i j) refl (λ q. woken_there (woken_at nodes j) (suc j) n i (omega (arith, q)) (omega arith) (rw length-set g))
    where
      go : (t : Bool) → eqb i j ≡ t
          → ((i ≡ j → ⊥)
          → get_or (woken_from (set nodes j (entry_woken (get_or nodes j no_node) k u j)) k u (suc j) n) i no_node
          ≡ entry_woken (get_or (set nodes j (entry_woken (get_or nodes j no_node) k u j)) i no_node) k u i)
          → get_or (woken_from (set nodes j (entry_woken (get_or nodes j no_node) k u j)) k u (suc j) n) i no_node ≡ entry_woken (get_or nodes i no_node) k u i
      go true e later =
          let q : i ≡ j = eqb-true i j e in
          woken_before (woken_at nodes j) (suc j) n i (omega arith) ∙ rw q (get_or-set_same nodes j _ no_node (rw q at g))
      go false e later =
          let q : i ≡ j → ⊥ = eqb-false i j e in
          later q ∙ rw (get_or-set_other nodes j i _ no_node q)

  -- the sender's entry stays
  pub woken_sender : (nodes : List NodeState) (j n : ℕ) → get_or (woken_from nodes k u j n) k no_node ≡ get_or nodes k no_node
  unfolding woken_from
  woken_sender nodes j zero = refl
  woken_sender nodes j (suc n) = woken_sender (woken_at nodes j) (suc j) n ∙ go (eqb k j) refl
    where
      go : (t : Bool) → eqb k j ≡ t → get_or (set nodes j (entry_woken (get_or nodes j no_node) k u j)) k no_node ≡ get_or nodes k no_node
      go true e =
          let q : k ≡ j = eqb-true k j e in
          rw (← q, self_entry (get_or nodes k no_node) k u, set-get_or nodes k no_node)
      go false e = get_or-set_other nodes j k _ no_node (eqb-false k j e)

-- none of them changes nothing
pub woken_none : (nodes : List NodeState) (k j n : ℕ) → woken_from nodes k 0 j n ≡ nodes
unfolding woken_from
woken_none nodes k j zero = refl
woken_none nodes k j (suc n) =
    rw (entry-none (get_or nodes j no_node) k j, set-get_or nodes j no_node) (woken_none nodes k (suc j) n)

-- ---- one more Wakeup behind u of them

-- the entries after u of them at n nodes, with the sender's entry d
abbrev standing : List NodeState → ℕ → ℕ → ℕ → NodeState → List NodeState
standing nodes k u n d = set (woken_from nodes k u 0 n) k d

module _ (nodes : List NodeState) (k u n : ℕ) (d : NodeState) (there : k < length nodes) (all : n ≤ length nodes) where
  -- the entry of another node
  other : (i : ℕ) → (i ≡ k → ⊥) → i < n
      → get_or (standing nodes k u n d) i no_node ≡ entry_woken (get_or nodes i no_node) k u i
  other i o h = get_or-set_other (woken_from nodes k u 0 n) k i d no_node o ∙ woken_there k u nodes 0 n i (omega arith) (omega arith) (omega arith)

  sender : get_or (standing nodes k u n d) k no_node ≡ d
  sender = get_or-set_same (woken_from nodes k u 0 n) k d no_node (rw (woken_length k u nodes 0 n) there)

  -- each queue has room for it as it had for u + 1
  pub room_next : d.fill ≤ bytes_per_queue → (get_or nodes k no_node).fill ≤ bytes_per_queue
      → wakeup_room (standing nodes k u n d) k 1 0 n ≡ wakeup_room nodes k (u + 1) 0 n
  room_next f g = room_alike _ nodes k 1 (u + 1) 0 n (λ i l h. go i (omega arith) (eqb i k) refl)
    where
      fits : (x : NodeState) (v : ℕ) → x.fill ≤ bytes_per_queue → leb (fill_woken x k v k) bytes_per_queue ≡ true
      fits x v q = rw (self_fill x k v) (le-leb _ bytes_per_queue q)

      go : (i : ℕ) → i < n → (t : Bool) → eqb i k ≡ t
          → leb (fill_woken (get_or (standing nodes k u n d) i no_node) k 1 i) bytes_per_queue
          ≡ leb (fill_woken (get_or nodes i no_node) k (u + 1) i) bytes_per_queue
      go i h true e =
          let q : i ≡ k = eqb-true i k e in
          rw (q, sender) (fits d 1 f ∙ sym (fits (get_or nodes k no_node) (u + 1) g))
      go i h false e = rw (other i (eqb-false i k e) h, fill-next (get_or nodes i no_node) k i u)

  -- it is laid where it is behind u of them
  pub laid_next : (q : List ℕ) → wakeups_laid (standing nodes k u n d) k 0 0 n q ≡ wakeups_laid nodes k u 0 n q
  laid_next queues = laid_alike _ nodes k 0 u 0 n queues (λ i l h q. go i (omega arith) (eqb i k) refl q)
    where
      go : (i : ℕ) → i < n → (t : Bool) → eqb i k ≡ t → (q : List ℕ)
          → wakeup_laid (get_or (standing nodes k u n d) i no_node) k 0 i q ≡ wakeup_laid (get_or nodes i no_node) k u i q
      go i h true e q = let p : i ≡ k = eqb-true i k e in rw p (self_laid _ k 0 q ∙ sym (self_laid _ k u q))
      go i h false e q = rw (other i (eqb-false i k e) h) (laid_behind (get_or nodes i no_node) k u i q)

  -- and leaves what u + 1 leave
  pub woken_next : set (woken_from (standing nodes k u n d) k 1 0 n) k d ≡ standing nodes k (u + 1) n d
  woken_next =
      ext_get_or no_node (set (woken_from (standing nodes k u n d) k 1 0 n) k d) (standing nodes k (u + 1) n d) (sized ∙ sym sized')
      (λ i h. go i (eqb i k) refl)
    where
      long : length (woken_from (standing nodes k u n d) k 1 0 n) ≡ length nodes
      long = woken_length k 1 (standing nodes k u n d) 0 n ∙ length-set (woken_from nodes k u 0 n) k d ∙ woken_length k u nodes 0 n

      sized : length (set (woken_from (standing nodes k u n d) k 1 0 n) k d) ≡ length nodes
      sized = length-set (woken_from (standing nodes k u n d) k 1 0 n) k d ∙ long

      sized' : length (standing nodes k (u + 1) n d) ≡ length nodes
      sized' = length-set (woken_from nodes k (u + 1) 0 n) k d ∙ woken_length k (u + 1) nodes 0 n

      another : (i : ℕ) → (i ≡ k → ⊥) → (t : Bool) → ltb i n ≡ t
          → get_or (woken_from (standing nodes k u n d) k 1 0 n) i no_node ≡ get_or (woken_from nodes k (u + 1) 0 n) i no_node
      another i o true e =
          let h : i < n = ltb-true i n e in
          let l : length (standing nodes k u n d) ≡ length nodes = length-set (woken_from nodes k u 0 n) k d ∙ woken_length k u nodes 0 n in
          woken_there k 1 (standing nodes k u n d) 0 n i (omega arith) (omega arith) (omega arith)
          ∙ rw (other i o h, fill-next (get_or nodes i no_node) k i u)
          (sym (woken_there k (u + 1) nodes 0 n i (omega arith) (omega arith) (omega arith)))
      another i o false e =
          let h : n ≤ i = ltb-false i n e in
          woken_behind k 1 (standing nodes k u n d) 0 n i (omega arith)
          ∙ get_or-set_other (woken_from nodes k u 0 n) k i d no_node o
          ∙ woken_behind k u nodes 0 n i (omega arith)
          ∙ sym (woken_behind k (u + 1) nodes 0 n i (omega arith))

      go : (i : ℕ) (t : Bool) → eqb i k ≡ t
          → get_or (set (woken_from (standing nodes k u n d) k 1 0 n) k d) i no_node ≡ get_or (standing nodes k (u + 1) n d) i no_node
      go i true e =
          let q : i ≡ k = eqb-true i k e in
          rw q
          (get_or-set_same (woken_from (standing nodes k u n d) k 1 0 n) k d no_node (rw long there)
          ∙ sym (get_or-set_same (woken_from nodes k (u + 1) 0 n) k d no_node (rw (woken_length k (u + 1) nodes 0 n) there)))
      go i false e =
          let o = eqb-false i k e in
          get_or-set_other (woken_from (standing nodes k u n d) k 1 0 n) k i d no_node o
          ∙ another i o (ltb i n) refl
          ∙ sym (get_or-set_other (woken_from nodes k (u + 1) 0 n) k i d no_node o)
