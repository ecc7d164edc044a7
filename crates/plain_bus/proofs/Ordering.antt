-- The order among pending frames is a strict total order, and the first of some entries is before all others.
-- By the same laws of one comparison of numbers, thrice.
-- Assumes nothing.
use mathlib.Core.Path.{◌≡◌, refl, sym, ◌∙◌}
use Prim.Native.Nat.{ℕ, ◌<◌}
use native.Mathlib.Omega.{arith}
use mathlib.Core.Bool.{Bool, true, false, ◌&&◌, ◌||◌}
use lib.Dec.{ltb, eqb}
use borrow.Author.Tests.{ltb-true, ltb-false, eqb-true, lt-ltb, le-ltb, eq-eqb}
use Rattle.plain_bus.specs.Order.{Entry, rank_of, lower_or, goes_before}

-- ---- one comparison

lower_irreflexive : (a : ℕ) {t : Bool} → t ≡ false → lower_or a a t ≡ false
lower_irreflexive a e = rw (le-ltb a a (omega arith), eq-eqb a a refl) e

lower_transitive : (a b c : ℕ) (t u v : Bool) → lower_or a b t ≡ true → lower_or b c u ≡ true
    → (t ≡ true → u ≡ true → v ≡ true) → lower_or a c v ≡ true
lower_transitive a b c t u v p q r = go (ltb a b) refl (eqb a b) refl (ltb b c) refl (eqb b c) refl p q
  where
    lower : a < c → lower_or a c v ≡ true
    lower h = rw (lt-ltb a c h)

    go : (x : Bool) → ltb a b ≡ x → (x' : Bool) → eqb a b ≡ x' → (y : Bool) → ltb b c ≡ y → (y' : Bool) → eqb b c ≡ y'
        → (x || x' && t) ≡ true → (y || y' && u) ≡ true → lower_or a c v ≡ true
    go true qx x' qx' true qy y' qy' p q = lower (omega (arith, ltb-true a b qx, ltb-true b c qy))
    go true qx x' qx' false qy true qy' p q = lower (omega (arith, ltb-true a b qx, eqb-true b c qy'))
    go true qx x' qx' false qy false qy' p q = let z : ◌≡◌ {A = ℕ} 0 1 = cc in absurd (omega arith)
    go false qx true qx' true qy y' qy' p q = lower (omega (arith, eqb-true a b qx', ltb-true b c qy))
    go false qx true qx' false qy true qy' p q =
        let e : a ≡ c = eqb-true a b qx' ∙ eqb-true b c qy' in
        rw (le-ltb a c (omega arith), eq-eqb a c e) (r p q)
    go false qx true qx' false qy false qy' p q = let z : ◌≡◌ {A = ℕ} 0 1 = cc in absurd (omega arith)
    go false qx false qx' y qy y' qy' p q = let z : ◌≡◌ {A = ℕ} 0 1 = cc in absurd (omega arith)

lower_total : (a b : ℕ) (t u : Bool) → lower_or a b t ≡ false → lower_or b a u ≡ false → (a ≡ b) × (t ≡ false) × (u ≡ false)
lower_total a b t u p q = go (ltb a b) refl (ltb b a) refl p q
  where
    go : (x : Bool) → ltb a b ≡ x → (y : Bool) → ltb b a ≡ y → (x || eqb a b && t) ≡ false → (y || eqb b a && u) ≡ false
        → (a ≡ b) × (t ≡ false) × (u ≡ false)
    go true qx y qy p q = let z : ◌≡◌ {A = ℕ} 0 1 = cc in absurd (omega arith)
    go false qx true qy p q = let z : ◌≡◌ {A = ℕ} 0 1 = cc in absurd (omega arith)
    go false qx false qy p q =
        let e : a ≡ b = omega (arith, ltb-false a b qx, ltb-false b a qy) in
        (e, rw (eq-eqb a b e) at p, rw (eq-eqb b a (sym e)) at q)

-- ---- the order

-- no frame goes before itself
pub before_irreflexive : (x : Entry) → goes_before x x ≡ false
unfolding goes_before
before_irreflexive x =
    lower_irreflexive (rank_of x) (lower_irreflexive x.owner (le-ltb x.position x.position (omega arith)))

pub before_transitive : (x y z : Entry) → goes_before x y ≡ true → goes_before y z ≡ true → goes_before x z ≡ true
unfolding goes_before
before_transitive x y z p q =
    lower_transitive (rank_of x) (rank_of y) (rank_of z) _ _ _ p q
    (λ p q. lower_transitive x.owner y.owner z.owner _ _ (ltb x.position z.position) p q
    (λ p q.
    let a = ltb-true x.position y.position p in
    let b = ltb-true y.position z.position q in
    lt-ltb x.position z.position (omega arith)))

pub record SamePlace (x y : Entry) : Type 0 where
  pub rank : rank_of x ≡ rank_of y
  pub owner : x.owner ≡ y.owner
  pub position : x.position ≡ y.position

-- of two entries at different places one goes before the other
pub before_total : (x y : Entry) → goes_before x y ≡ false → goes_before y x ≡ false → SamePlace x y
unfolding goes_before
before_total x y p q =
    let a = lower_total (rank_of x) (rank_of y) _ _ p q in
    let b = lower_total x.owner y.owner _ _ a.1 a.2 in
    record {
      rank = a.0;
      owner = b.0;
      position = omega (arith, ltb-false x.position y.position b.1, ltb-false y.position x.position b.2);
    }

same-before : (x y z : Entry) → SamePlace x y → goes_before z x ≡ goes_before z y
unfolding goes_before
same-before x y z s = rw (s.rank, s.owner, s.position)

-- where y is not before x, and z not before y, z is not before x
pub not-before_transitive : (x y z : Entry) → goes_before y x ≡ false → goes_before z y ≡ false → goes_before z x ≡ false
not-before_transitive x y z p q = go (goes_before z x) refl (goes_before x y) refl
  where
    go : (t : Bool) → goes_before z x ≡ t → (u : Bool) → goes_before x y ≡ u → goes_before z x ≡ false
    go false e u f = e
    go true e true f = let z : ◌≡◌ {A = ℕ} 0 1 = cc (before_transitive z x y e f) in absurd (omega arith)
    go true e false f = same-before x y z (before_total x y f p) ∙ q
