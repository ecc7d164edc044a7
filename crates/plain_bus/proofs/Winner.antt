-- The winner of a round is the first pending frame by the order, and there is none only where nothing is pending.
-- Assumes nothing.
use mathlib.Core.Path.{◌≡◌, refl, sym, ap, ◌∙◌, subst}
use Prim.Native.Nat.{ℕ, zero, suc, ◌+◌, ◌<◌}
use native.Mathlib.Omega.{arith}
use native.Mathlib.Nat.{add-zero}
use mathlib.Core.Logic.{◌⊎◌, inl, inr}
use mathlib.Core.Bool.{Bool, true, false, cond}
use mathlib.Core.List.{List, [], ◌∷◌, ◌++◌}
use lib.ListN.{length, get_or}
use Rattle.plain_bus.specs.Held.{Frame, Node, Bus, new_node, node_at}
use Rattle.plain_bus.specs.Order.{Entry, goes_before, Pending, entries_of, entries_from, entries, Winner, nobody, wins, better, first_of, winner}
use Rattle.plain_bus.proofs.Ordering.{SamePlace, before_irreflexive, before_transitive, before_total, not-before_transitive}

-- ---- the first of some entries

abbrev Among : Entry → List Entry → Type 0
Among y [] = ⊥
Among y (x ∷ xs) = (y ≡ x) ⊎ Among y xs

among-left : (y : Entry) (xs ys : List Entry) → Among y xs → Among y (xs ++ ys)
among-left y [] ys a = elim a [ ]
among-left y (x ∷ xs) ys (inl e) = inl e
among-left y (x ∷ xs) ys (inr a) = inr (among-left y xs ys a)

among_right : (y : Entry) (xs ys : List Entry) → Among y ys → Among y (xs ++ ys)
among_right y [] ys a = a
among_right y (x ∷ xs) ys a = inr (among_right y xs ys a)

among_either : (y : Entry) (xs ys : List Entry) → Among y (xs ++ ys) → Among y xs ⊎ Among y ys
among_either y [] ys a = inr a
among_either y (x ∷ xs) ys (inl e) = inl (inl e)
among_either y (x ∷ xs) ys (inr a) = go (among_either y xs ys a)
  where
    go : Among y xs ⊎ Among y ys → Among y (x ∷ xs) ⊎ Among y ys
    go (inl b) = inl (inr b)
    go (inr b) = inr b

-- r is the first of some entries: one of them, and none goes before it
record First (r : Winner) (all : List Entry) : Type 0 where
  entry : Entry
  first : r ≡ wins entry
  among : Among entry all
  least : (y : Entry) → Among y all → goes_before y entry ≡ false

before_asymmetric : (x y : Entry) → goes_before y x ≡ true → goes_before x y ≡ false
before_asymmetric x y e = go (goes_before x y) refl
  where
    go : (t : Bool) → goes_before x y ≡ t → goes_before x y ≡ false
    go false f = f
    go true f = let z : ◌≡◌ {A = ℕ} 0 1 = cc (before_transitive x y x f e, before_irreflexive x) in absurd (omega arith)

first_of_lem : (x : Entry) (xs : List Entry) → First (first_of (wins x) xs) (x ∷ xs)
unfolding first_of better
first_of_lem x [] = record { entry = x; first = refl; among = inl refl; least = go }
  where
    go : (y : Entry) → Among y (x ∷ []) → goes_before y x ≡ false
    go y (inl e) = rw e (before_irreflexive x)
    go y (inr a) = elim a [ ]
first_of_lem x (y ∷ xs) = go (goes_before y x) refl (first_of_lem y xs) (first_of_lem x xs)
  where
    go : (t : Bool) → goes_before y x ≡ t → First (first_of (wins y) xs) (y ∷ xs) → First (first_of (wins x) xs) (x ∷ xs)
        → First (first_of (wins (cond t y x)) xs) (x ∷ y ∷ xs)
    go true e f g = record { entry = f.entry; first = f.first; among = inr f.among; least = least }
      where
        least : (z : Entry) → Among z (x ∷ y ∷ xs) → goes_before z f.entry ≡ false
        least z (inl q) = rw q (not-before_transitive f.entry y x (f.least y (inl refl)) (before_asymmetric x y e))
        least z (inr a) = f.least z a
    go false e f g = record { entry = g.entry; first = g.first; among = up g.among; least = least }
      where
        up : Among g.entry (x ∷ xs) → Among g.entry (x ∷ y ∷ xs)
        up (inl q) = inl q
        up (inr a) = inr (inr a)

        least : (z : Entry) → Among z (x ∷ y ∷ xs) → goes_before z g.entry ≡ false
        least z (inl q) = g.least z (inl q)
        least z (inr (inl q)) = rw q (not-before_transitive g.entry x y (g.least x (inl refl)) e)
        least z (inr (inr a)) = g.least z (inr a)

-- ---- the entries are the pending frames

-- y is at position i + j among the frames of node k
record Held (k i : ℕ) (fs : List Frame) (y : Entry) : Type 0 where
  index : ℕ
  owner : y.owner ≡ k
  position : y.position ≡ i + index
  placed : index < length fs
  held : get_or fs index y.frame ≡ y.frame

entries-held : (k i : ℕ) (fs : List Frame) (y : Entry) → Among y (entries_of k i fs) → Held k i fs y
unfolding entries_of
entries-held k i [] y a = elim a [ ]
entries-held k i (f ∷ fs) y (inl e) = record {
  index = 0;
  owner = ap (λ (x : Entry). x.owner) e;
  position = omega (arith, ap (λ (x : Entry). x.position) e);
  placed = omega arith;
  held = sym (ap (λ (x : Entry). x.frame) e);
}
entries-held k i (f ∷ fs) y (inr a) =
    let h : Held k (suc i) fs y = entries-held k (suc i) fs y a in
    record { index = suc h.index; owner = h.owner; position = omega arith; placed = omega arith; held = h.held }

held-entries : (k i : ℕ) (fs : List Frame) (y : Entry) → Held k i fs y → Among y (entries_of k i fs)
unfolding entries_of
held-entries k i [] y h = absurd (omega arith)
held-entries k i (f ∷ fs) y h = go h.index h.position h.placed h.held (held-entries k (suc i) fs y)
  where
    go : (j : ℕ) → y.position ≡ i + j → j < suc (length fs) → get_or (f ∷ fs) j y.frame ≡ y.frame
        → (Held k (suc i) fs y → Among y (entries_of k (suc i) fs))
        → Among y (record { owner = k; position = i; frame = f } ∷ entries_of k (suc i) fs)
    go zero p l e r = inl (λ t. record { owner = h.owner t; position = at t; frame = sym e t })
      where
        at : y.position ≡ i
        at = omega arith
    go (suc j) p l e r =
        inr (r (record { index = j; owner = h.owner; position = omega arith; placed = omega arith; held = e }))

-- the same of all nodes, from number k on
record HeldFrom (k : ℕ) (ds : List Node) (y : Entry) : Type 0 where
  number : ℕ
  attached : number < length ds
  here : Held (k + number) 0 (get_or ds number new_node).pending y

entries_from_lem : (k : ℕ) (ds : List Node) (y : Entry) → Among y (entries_from k ds) → HeldFrom k ds y
unfolding entries_from
entries_from_lem k [] y a = elim a [ ]
entries_from_lem k (d ∷ ds) y a =
    go (among_either y (entries_of k 0 d.pending) (entries_from (suc k) ds) a) (entries_from_lem (suc k) ds y)
  where
    go : Among y (entries_of k 0 d.pending) ⊎ Among y (entries_from (suc k) ds)
        → (Among y (entries_from (suc k) ds) → HeldFrom (suc k) ds y) → HeldFrom k (d ∷ ds) y
    go (inl a) r = record {
      number = 0;
      attached = omega arith;
      here = rw add-zero (entries-held k 0 d.pending y a);
    }
    go (inr a) r =
        let h : HeldFrom (suc k) ds y = r a in
        record {
          number = suc h.number;
          attached = omega arith;
          here = subst (λ (n : ℕ). Held n 0 (get_or ds h.number new_node).pending y) (omega arith) h.here;
        }

from_entries : (k : ℕ) (ds : List Node) (y : Entry) → HeldFrom k ds y → Among y (entries_from k ds)
unfolding entries_from
from_entries k [] y h = absurd (omega arith)
from_entries k (d ∷ ds) y h = go h.number h.attached h.here (from_entries (suc k) ds y)
  where
    go : (n : ℕ) → n < suc (length ds) → Held (k + n) 0 (get_or (d ∷ ds) n new_node).pending y
        → (HeldFrom (suc k) ds y → Among y (entries_from (suc k) ds))
        → Among y (entries_of k 0 d.pending ++ entries_from (suc k) ds)
    go zero l e r =
        among-left y (entries_of k 0 d.pending) (entries_from (suc k) ds) (held-entries k 0 d.pending y (rw add-zero at e))
    go (suc n) l e r =
        among_right y (entries_of k 0 d.pending) (entries_from (suc k) ds)
        (r
        (record {
          number = n;
          attached = omega arith;
          here = subst (λ (m : ℕ). Held m 0 (get_or ds n new_node).pending y) (omega arith) e;
        }))

pending-entries : (b : Bus) (y : Entry) → Pending b y → Among y (entries b)
pending-entries b y s =
    from_entries 0 b.nodes y (record {
      number = y.owner;
      attached = s.attached;
      here = record { index = y.position; owner = omega arith; position = omega arith; placed = s.placed; held = s.held };
    })

entries-pending : (b : Bus) (y : Entry) → Among y (entries b) → Pending b y
entries-pending b y a =
    let h : HeldFrom 0 b.nodes y = entries_from_lem 0 b.nodes y a in
    let o : h.number ≡ y.owner = omega (arith, h.here.owner) in
    let p : h.here.index ≡ y.position = omega (arith, h.here.position) in
    record {
      attached = rw o at h.attached;
      placed = subst (λ (n : ℕ). y.position < length (node_at b n).pending) o (rw p at h.here.placed);
      held = subst (λ (n : ℕ). get_or (node_at b n).pending y.position y.frame ≡ y.frame) o (rw p at h.here.held);
    }

-- ---- the winner

first_from : (xs : List Entry) (w : Entry) → first_of nobody xs ≡ wins w → First (wins w) xs
unfolding first_of better
first_from [] w e = let z : ◌≡◌ {A = ℕ} 0 1 = cc in absurd (omega arith)
first_from (x ∷ xs) w e = subst (λ (r : Winner). First r (x ∷ xs)) e (first_of_lem x xs)

won : (b : Bus) (w : Entry) → winner b ≡ wins w → First (wins w) (entries b)
unfolding winner
won b w e = first_from (entries b) w e

-- the winner is one of the pending frames
pub winner-pending : (b : Bus) (w : Entry) → winner b ≡ wins w → Pending b w
winner-pending b w e = let f = won b w e in entries-pending b w (rw (← same f) at f.among)
  where
    same : (f : First (wins w) (entries b)) → w ≡ f.entry
    same f = cc f.first

-- entries at one place are one entry
one_place : (b : Bus) (x y : Entry) → Pending b x → Pending b y → x.owner ≡ y.owner → x.position ≡ y.position → x ≡ y
one_place b x y s t o p = λ i. record { owner = o i; position = p i; frame = same i }
  where
    any : (l : List Frame) (n : ℕ) (f g : Frame) → n < length l → get_or l n f ≡ get_or l n g
    any [] n f g h = absurd (omega arith)
    any (a ∷ l) zero f g h = refl
    any (a ∷ l) (suc n) f g h = any l n f g (omega arith)

    same : x.frame ≡ y.frame
    same =
        sym s.held ∙ any (node_at b x.owner).pending x.position x.frame y.frame s.placed
        ∙ rw (o, p) t.held

-- the winner goes before every other pending frame
pub winner-first : (b : Bus) (w : Entry) → winner b ≡ wins w → (y : Entry) → Pending b y
    → (y ≡ w) ⊎ (goes_before w y ≡ true)
winner-first b w e y s = go (goes_before w y) refl
  where
    f : First (wins w) (entries b)
    f = won b w e

    least : goes_before y w ≡ false
    least = let q : w ≡ f.entry = cc f.first in rw q (f.least y (pending-entries b y s))

    go : (t : Bool) → goes_before w y ≡ t → (y ≡ w) ⊎ (goes_before w y ≡ true)
    go true q = inr q
    go false q =
        let p : SamePlace y w = before_total y w least q in
        inl (one_place b y w s (winner-pending b w e) p.owner p.position)

-- the first one is unique: what goes before every other is the winner
pub winner_unique : (b : Bus) (w v : Entry) → winner b ≡ wins w → Pending b v
    → ((y : Entry) → Pending b y → (y ≡ v) ⊎ (goes_before v y ≡ true)) → v ≡ w
winner_unique b w v e s h = go (winner-first b w e v s) (h w (winner-pending b w e))
  where
    go : (v ≡ w) ⊎ (goes_before w v ≡ true) → (w ≡ v) ⊎ (goes_before v w ≡ true) → v ≡ w
    go (inl q) r = q
    go (inr q) (inl r) = sym r
    go (inr q) (inr r) = let z : ◌≡◌ {A = ℕ} 0 1 = cc (before_asymmetric w v r) in absurd (omega arith)

-- there is no winner only where nothing is pending
pub nobody-pending : (b : Bus) → winner b ≡ nobody → (y : Entry) → Pending b y → ⊥
unfolding winner first_of better
nobody-pending b e y s = go (entries b) e (pending-entries b y s)
  where
    go : (xs : List Entry) → first_of nobody xs ≡ nobody → Among y xs → ⊥
    go [] e a = a
    go (x ∷ xs) e a = let f = first_of_lem x xs in let z : ◌≡◌ {A = ℕ} 0 1 = cc f.first in omega arith
