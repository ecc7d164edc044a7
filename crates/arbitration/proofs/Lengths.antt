-- The number of bytes that a node is owed.
-- Assumes nothing.
use mathlib.Core.Path.{◌≡◌, refl, ◌∙◌}
use mathlib.Core.List.{List, []}
use mathlib.Core.Bool.{Bool, true, false, cond}
use Rattle.std.specs.Prelude.{Option, None, Some}
use Prim.Native.Nat.{ℕ, zero, suc, ◌+◌, ◌-◌, ◌*◌, ◌≤◌, ◌<◌}
use native.Mathlib.Omega.{arith}
use lib.Dec.{eqb}
use borrow.Author.Tests.{eqb-true, eqb-false, eq-eqb, ne_eqb}
use lib.ListN.{length, get_or, length-append}
use Rattle.operation.specs.Format.{data_length, length_of, encode}
use Rattle.operation.specs.Kinds.{id_of}
use Rattle.operation.specs.declared.Operation.{Operation}
use Rattle.operation.specs.declared.Operation.TheVariants.{Confirm, ArbitrationLost, BusError}
use Rattle.operation.proofs.Sizes.{head_small, encode-length}
use Rattle.bus_state.specs.Memory.{node_state, is_off}
use Rattle.bus_state.specs.declared.State.{State}
use Rattle.bus_state.specs.declared.NodeState.{NodeState}
use Rattle.arbitration.specs.declared.Injection.{Injection}
use Rattle.arbitration.specs.Owed.{told_count, owed_length, discards, discarded, own, news_to, notices_but, owed_to, news_length, Tellable, PendingAt}

pub news_short : (e : Option Injection) (mine off : Bool) (size : ℕ) → size ≤ 2_070 → news_length e mine off size ≤ 2_070
news_short None true off size h = omega arith
news_short None false true size h = omega arith
news_short None false false size h = h
news_short (Some i) mine true size h = omega arith
news_short (Some i) mine false size h = omega arith

-- a Transmit whose data fit a slot is short
pub size_short : (op : Operation) {size : ℕ} → size ≡ length_of op → data_length op ≤ 2_048 → size ≤ 2_070
size_short op q h = omega (arith, head_small op)

-- no more are discarded than are pending
pub discarded-few : (d : NodeState) → discarded d ≤ d.pending
discarded-few d = go (discards d)
  where
    go : (t : Bool) → cond t d.pending 0 ≤ d.pending
    go true = omega arith
    go false = omega arith

-- no more are told than are pending
told-few : (d : NodeState) (mine : Bool) → told_count d mine ≤ d.pending
told-few d mine = go (discards d)
  where
    go : (t : Bool) → cond t (d.pending - own mine) 0 ≤ d.pending
    go true = omega arith
    go false = omega arith

pub owed-short : (e : Option Injection) (d : NodeState) (mine : Bool) (size : ℕ) → size ≤ 2_070
    → owed_length e d mine size ≤ 2_070 + 12 * d.pending
unfolding owed_length
owed-short e d mine size h = omega (arith, news_short e mine (is_off d) size h, told-few d mine)

-- the news are as long as their number says
pub news_length_is : (e : Option Injection) (j owner : ℕ) (off : Bool) (op : Operation) (bytes : List ℕ) (size : ℕ)
    → length bytes ≡ data_length op → size ≡ length_of op → length (news_to e j owner off op bytes) ≡ news_length e (eqb j owner) off size
unfolding news_to
news_length_is None j owner off op bytes size b n = go (eqb j owner) off
  where
    go : (mine off : Bool)
        → length (cond mine (encode (Confirm (id_of op)) []) (cond off [] (encode op bytes))) ≡ news_length None mine off size
    go true off = encode-length (Confirm (id_of op)) []
    go false true = refl
    go false false = encode-length op bytes ∙ omega arith
news_length_is (Some i) j owner true op bytes size b n = refl
news_length_is (Some i) j owner false op bytes size b n = encode-length (BusError (id_of op) i.code (cond (eqb j i.detector) 1 2) (own (eqb j owner))) []

-- ---- the notices

-- twelve bytes a frame, where the winner is none of them
notices_all : (ids : List ℕ) (winner n p : ℕ) → ((i : ℕ) → i < n → p + i ≡ winner → ⊥) → length (notices_but ids winner p n) ≡ 12 * n
unfolding notices_but
notices_all ids winner zero p o = refl
notices_all ids winner (suc n) p o =
    let x : eqb p winner ≡ false = ne_eqb p winner (λ e. o 0 (omega arith) (omega arith)) in
    let k = encode-length (ArbitrationLost (get_or ids p 0)) [] in
    let l = notices_all ids winner n (suc p) (λ i h e. o (suc i) (omega arith) (omega arith)) in
    rw x (length-append (encode (ArbitrationLost (get_or ids p 0)) []) (notices_but ids winner (suc p) n) ∙ omega (arith, k, l))

-- and one less, where it is one of them
notices_one : (ids : List ℕ) (q n p : ℕ) → q < n → length (notices_but ids (p + q) p n) ≡ 12 * (n - 1)
unfolding notices_but
notices_one ids q zero p h = absurd (omega arith)
notices_one ids zero (suc n) p h =
    let x : eqb p (p + 0) ≡ true = eq-eqb p (p + 0) (omega arith) in
    let l = notices_all ids (p + 0) n (suc p) (λ i h e. omega arith) in
    rw x (l ∙ omega arith)
notices_one ids (suc q) (suc n) p h =
    let x : eqb p (p + suc q) ≡ false = ne_eqb p (p + suc q) (λ e. omega arith) in
    let k = encode-length (ArbitrationLost (get_or ids p 0)) [] in
    let s : suc p + q ≡ p + suc q = omega arith in
    let l = rw s at (notices_one ids q n (suc p) (omega arith)) in
    rw x
    (length-append (encode (ArbitrationLost (get_or ids p 0)) []) (notices_but ids (p + suc q) (suc p) n) ∙ omega (arith, k, l))

notices_told : (ids : List ℕ) (d : NodeState) (j owner position : ℕ) → position < 4 → d.pending ≤ 4
    → (j ≡ owner → position < d.pending)
    → length (notices_but ids (4 * owner + position) (4 * j) (discarded d)) ≡ 12 * told_count d (eqb j owner)
unfolding notices_but
notices_told ids d j owner position h few o = go (discards d) (eqb j owner) refl
  where
    go : (t u : Bool) → eqb j owner ≡ u
        → length (notices_but ids (4 * owner + position) (4 * j) (cond t d.pending 0)) ≡ 12 * cond t (d.pending - own u) 0
    go false u q = refl
    go true true q =
        let e = eqb-true j owner q in
        rw (← e) (notices_one ids position d.pending (4 * j) (o e))
    go true false q =
        let n = eqb-false j owner q in
        notices_all ids (4 * owner + position) d.pending (4 * j) (λ i l e. n (omega arith)) ∙ omega arith

-- all that a node is owed is as long as its number says
pub owed_length_is : {s : State} {owner position : ℕ} {ids : List ℕ} (e : Option Injection) (op : Operation) (bytes : List ℕ) (size : ℕ)
    → Tellable s ids → PendingAt s owner position → length bytes ≡ data_length op
    → size ≡ length_of op → (j : ℕ) → j < s.count
    → length (owed_to e (node_state s j) j owner position op ids bytes) ≡ owed_length e (node_state s j) (eqb j owner) size
unfolding owed_to owed_length
owed_length_is {s} {owner} {position} {ids} e op bytes size t w b n j h =
    let d = node_state s j in
    length-append (news_to e j owner (is_off d) op bytes) (notices_but ids (4 * owner + position) (4 * j) (discarded d))
    ∙ rw (
      news_length_is e j owner (is_off d) op bytes size b n,
      notices_told ids d j owner position (omega (arith, t.few owner w.0, w.1)) (t.few j h) (λ q. rw q w.1),
    )
