-- What a call knows of its parameters on entry: a state by value and lent slots are of their types. The slots are seen behind their
-- reference, which an update of ghost state opens and closes before the call runs.
--     sees_mut, sees_shr    the slots behind a `&mut [Slot]`, and behind a `&[Slot]`
--     state-and-slots       the state and the slots that three calls have as their first parameters
--     sixth_bytes           the bytes of the buffer that kf_submit is given
--     first_is, first-bytes    a first parameter by value, and the bytes of one that is a `&[u8]`
-- Assumes `Logic`.
use Prim.Native.Nat.{ℕ, zero, suc}
use mathlib.Core.Path.{◌≡◌, refl}
use mathlib.Core.Bool.{true}
use mathlib.Core.List.{List, [], ◌∷◌}
use seplogic.Ra.Ura.{Ura}
use base.Fraction.{full_share}
use mir.Syntax.{Lifetime, w8}
use mir.Val.{Val}
use base.Logic.{SProp, ent, sep, guard_i}
use base.Fml.{Lft, Share, Fml, flft}
use types.Logic.{Logic, sem}
use contract.Monad.{fact, fact_use}
use types.Kit.{Item, Goal, Seq, ‵, raw, given, ◌⊛◌, later, ◌$◌, ◌∵◌, !, qed, move, use1, use2, split, join, fsplit, fjoin, learn, frame, await, updating, now as at_once, done}
use denote.RattleType.{RattleType, Denots, Valss, owns}
use denote.Builtin.{u8}
use denote.Copied.{uint_Copied}
use denote.Struct.Laws.{copied}
use denote.Laws.{Is, shows}
use denote.Memory.{part_of}
use denote.Ref.{Bor, MutBor}
use denote.Shadow.{shadow, shows_shadow, pure_l, pure_i}
use denote.Index.{row, opens_slice, closes_slice, looks_slice, shuts_slice}
use denote.Slice.{MutSlice, ShrSlice, shr_slice_at, mut_slice_at}
use denote.Steps.{peeks, heard}
use denote.Triple.Walked.{says}
use Rattle.operation.specs.Number.{Bytes}
use Rattle.slots.specs.declared.Slot.{Slot}
use Rattle.slots.specs.contracts.Slot as T
use Rattle.slots.proofs.Slot.TheLaws as T'
use Rattle.bus_state.specs.declared.State.{State}
use Rattle.bus_state.specs.contracts.State as St
use Rattle.bus_state.specs.Memory.{held, lent_well}
use Rattle.bus_model.specs.Refines.{TypedMemory}
use Rattle.claims.proofs.Machine.{TypedSlots, slot-typed, free_typed, memory-typed}

row_typed : (q : Share) (ys : List Slot) (b o : ℕ) → shadow (row T.the_row q ys b o) → TypedSlots ys
unfolding part_of
row_typed q [] b o g p = free_typed
row_typed q (y ∷ ys) b o g zero = slot-typed y g.0.0 g.0.1.1
row_typed q (y ∷ ys) b o g (suc p) = row_typed q ys b _ g.1 p

row_bytes : (q : Share) (ys : List ℕ) (b o : ℕ) → shadow (row u8 q ys b o) → Bytes ys
unfolding part_of
row_bytes q [] b o g = tt
row_bytes q (y ∷ ys) b o g = (g.0.1.1.1, row_bytes q ys b _ g.1)

module _ {M : Type 1} {𝓤 : Ura M} {𝓛 : Logic 𝓤} {K : Type 0} {Γ : List (Item 𝓤)} {G : Goal 𝓤 𝓛.H} where
  -- what a formula says that is no resource, and it stays
  shows_of : K → (P : Fml) → (shadow P → Seq K 𝓛 (‵ P ∷ Γ) G) → Seq K 𝓛 (‵ P ∷ Γ) G
  shows_of t P k = use1 𝓛 (given (shadow P) (‵ P)) (fact_use 𝓤 (shadow P) (shows_shadow 𝓛 P) (λ p. guard_i 𝓤 (shadow P)
      (sem 𝓛 P) p)) $ learn t k

module _ {M : Type 1} {𝓤 : Ura M} (𝓛 : Logic 𝓤) (ℓ : Lifetime) (κ : Lft) (q : Share) (x : MutBor
    (List Slot)) (vs : List Val) where
  open 𝓛 use {H, A}

  pub sees_mut : ent 𝓤 (sep 𝓤 (sem 𝓛 ((MutSlice ℓ κ T.the_row).own_val x vs)) (A.lft κ q))
      (H.⇛ (sep 𝓤 (sep 𝓤 (sem 𝓛 ((MutSlice ℓ κ T.the_row).own_val x vs)) (A.lft κ q)) (fact 𝓤 (TypedSlots x.now))))
  sees_mut =
      qed 𝓛 (‵ ((MutSlice ℓ κ T.the_row).own_val x vs) ∷ ‵ (flft κ q) ∷ []) ∵ updating ! $ fsplit ! $ pure_l ! (mut_slice_at T.the_row x vs)
      (λ p. fsplit ! $
      opens_slice ! tt T.the_row x.now x.ref_ptr.0 x.ref_ptr.1 $
      shows_of ! (row T.the_row full_share x.now x.ref_ptr.0 x.ref_ptr.1) (λ g.
      closes_slice ! tt T.the_row x.now x.now refl x.ref_ptr.0 x.ref_ptr.1 $ at_once ! $
      says ! (row_typed full_share x.now x.ref_ptr.0 x.ref_ptr.1 g) $
      fjoin ! $ pure_i ! (mut_slice_at T.the_row x vs) (tt, (tt, tt)) p $ fjoin ! $ done !))

module _ {M : Type 1} {𝓤 : Ura M} (𝓛 : Logic 𝓤) (ℓ : Lifetime) (κ : Lft) (q : Share) (x : Bor
    (List Slot)) (vs : List Val) where
  open 𝓛 use {H, A}

  pub sees_shr : ent 𝓤 (sep 𝓤 (sem 𝓛 ((ShrSlice ℓ κ T.the_row).own_val x vs)) (A.lft κ q))
      (H.⇛ (sep 𝓤 (sep 𝓤 (sem 𝓛 ((ShrSlice ℓ κ T.the_row).own_val x vs)) (A.lft κ q)) (fact 𝓤 (TypedSlots x.now))))
  sees_shr =
      qed 𝓛 (‵ ((ShrSlice ℓ κ T.the_row).own_val x vs) ∷ ‵ (flft κ q) ∷ []) ∵ updating ! $ fsplit ! $ pure_l ! (shr_slice_at T.the_row x vs)
      (λ p.
      looks_slice ! tt T.the_row (copied T.the_type T'.the_copy 𝓛) x.now x.ref_ptr.0 x.ref_ptr.1 (λ q'.
      shows_of ! (row T.the_row q' x.now x.ref_ptr.0 x.ref_ptr.1) (λ g.
      shuts_slice ! tt T.the_row q' x.now x.ref_ptr.0 x.ref_ptr.1 $ at_once ! $
      says ! (row_typed q' x.now x.ref_ptr.0 x.ref_ptr.1 g) $
      move ! (1 ∷ []) $ pure_i ! (shr_slice_at T.the_row x vs) (tt, (tt, tt)) p $ fjoin ! $ done !)))

-- a memory with this state and these slots is typed, where the lent memory has its sizes
abbrev pub OfTypes : State → List Slot → Type 0
OfTypes s ys = (ps qs : List ℕ) → lent_well (held s ys ps qs) ≡ true → TypedMemory (held s ys ps qs)

-- a state, then lent slots, then other parameters; and the tokens, the slots' first
module _ {M : Type 1} {𝓤 : Ura M} (𝓛 : Logic 𝓤) (R : RattleType) (κ : Lft) (q : Share) (ts : SProp 𝓤)
    (Rs : List RattleType) (s : State) (y : R.Denot) (a : Denots Rs)
    (us vs : List Val) (vss : Valss Rs) (ys : List Slot) where
  open 𝓛 use {H, A}

  abbrev Entry : SProp 𝓤
  Entry = sep 𝓤 (sep 𝓤 (A.lft κ q) ts) (sem 𝓛 (owns (St.the_row ∷ R ∷ Rs) (s, (y, a)) (us, (vs, vss))))

  pub state-and-slots : ent 𝓤 (sep 𝓤 (sem 𝓛 (R.own_val y vs)) (A.lft κ q)) (H.⇛ (sep 𝓤 (sep 𝓤 (sem 𝓛 (R.own_val y vs))
      (A.lft κ q)) (fact 𝓤 (TypedSlots ys))))
      → ent 𝓤 Entry (H.⇛ (sep 𝓤 Entry (fact 𝓤 (OfTypes s ys))))
  state-and-slots sees =
      qed 𝓛 ((‵ (flft κ q) ⊛ raw ts) ∷ ‵ (owns (St.the_row ∷ R ∷ Rs) (s, (y, a)) (us, (vs, vss))) ∷ []) ∵ updating ! $ split ! $
      move ! (2 ∷ []) $ fsplit ! $
      peeks ! St.the_row (Is St.the_row) (shows 𝓛 St.the_row) s us (λ is. move ! (1 ∷ []) $ fsplit ! $ move ! (0 ∷ 3 ∷ []) $
      use2 𝓛 (later ((‵ (R.own_val y vs) ⊛ ‵ (flft κ q)) ⊛ raw (fact 𝓤 (TypedSlots ys)))) sees $ await ! tt $ split ! $ move ! (1 ∷ []) $
      heard ! (TypedSlots ys) (λ h.
      split ! $ at_once ! $ says ! (λ ps qs. memory-typed s us ys ps qs is h) $ move ! (1 ∷ 4 ∷ []) $ join ! $ frame ! $ fjoin ! $
      move ! (1 ∷ 0 ∷ []) $ fjoin ! $ done !))

-- the same of the parameters as they come: the slots behind a `&mut`, and behind a `&`
module _ {M : Type 1} {𝓤 : Ura M} (𝓛 : Logic 𝓤) (ℓ : Lifetime) (κ : Lft) (q : Share) (ts : SProp 𝓤)
    (Rs : List RattleType) where
  open 𝓛 use {H, A}

  pub slots_mut : (a : Denots (St.the_row ∷ MutSlice ℓ κ T.the_row ∷ Rs)) (vss : Valss (St.the_row ∷ MutSlice ℓ κ T.the_row ∷ Rs))
      → let entry = sep 𝓤 (sep 𝓤 (A.lft κ q) ts) (sem 𝓛 (owns (St.the_row ∷ MutSlice ℓ κ T.the_row ∷ Rs) a vss)) in
      ent 𝓤 entry (H.⇛ (sep 𝓤 entry (fact 𝓤 (OfTypes a.0 a.1.0.now))))
  slots_mut a vss =
      state-and-slots 𝓛 (MutSlice ℓ κ T.the_row) κ q ts Rs a.0 a.1.0 a.1.1 vss.0 vss.1.0 vss.1.1 a.1.0.now
      (sees_mut 𝓛 ℓ κ q a.1.0 vss.1.0)

  pub slots_shr : (a : Denots (St.the_row ∷ ShrSlice ℓ κ T.the_row ∷ Rs)) (vss : Valss (St.the_row ∷ ShrSlice ℓ κ T.the_row ∷ Rs))
      → let entry = sep 𝓤 (sep 𝓤 (A.lft κ q) ts) (sem 𝓛 (owns (St.the_row ∷ ShrSlice ℓ κ T.the_row ∷ Rs) a vss)) in
      ent 𝓤 entry (H.⇛ (sep 𝓤 entry (fact 𝓤 (OfTypes a.0 a.1.0.now))))
  slots_shr a vss =
      state-and-slots 𝓛 (ShrSlice ℓ κ T.the_row) κ q ts Rs a.0 a.1.0 a.1.1 vss.0 vss.1.0 vss.1.1 a.1.0.now
      (sees_shr 𝓛 ℓ κ q a.1.0 vss.1.0)

module _ {M : Type 1} {𝓤 : Ura M} (𝓛 : Logic 𝓤) (ℓ : Lifetime) (κ : Lft) (q : Share) (x : Bor
    (List ℕ)) (vs : List Val) where
  open 𝓛 use {H, A}

  sees_bytes : ent 𝓤 (sep 𝓤 (sem 𝓛 ((ShrSlice ℓ κ u8).own_val x vs)) (A.lft κ q))
      (H.⇛ (sep 𝓤 (sep 𝓤 (sem 𝓛 ((ShrSlice ℓ κ u8).own_val x vs)) (A.lft κ q)) (fact 𝓤 (Bytes x.now))))
  sees_bytes =
      qed 𝓛 (‵ ((ShrSlice ℓ κ u8).own_val x vs) ∷ ‵ (flft κ q) ∷ []) ∵ updating ! $ fsplit ! $ pure_l ! (shr_slice_at u8 x vs) (λ p.
      looks_slice ! tt u8 (uint_Copied 𝓛 w8) x.now x.ref_ptr.0 x.ref_ptr.1 (λ q'.
      shows_of ! (row u8 q' x.now x.ref_ptr.0 x.ref_ptr.1) (λ g.
      shuts_slice ! tt u8 q' x.now x.ref_ptr.0 x.ref_ptr.1 $ at_once ! $
      says ! (row_bytes q' x.now x.ref_ptr.0 x.ref_ptr.1 g) $
      move ! (1 ∷ []) $ pure_i ! (shr_slice_at u8 x vs) (tt, (tt, tt)) p $ fjoin ! $ done !)))

-- a `&[u8]` as the sixth parameter, with the fourth lifetime
module _ {M : Type 1} {𝓤 : Ura M} (𝓛 : Logic 𝓤) (t₀ t₁ t₂ ts : SProp 𝓤) (κ : Lft) (q : Share)
    (R₀ R₁ R₂ R₃ R₄ : RattleType) (Rs : List RattleType) (ℓ : Lifetime)
    (a : Denots (R₀ ∷ R₁ ∷ R₂ ∷ R₃ ∷ R₄ ∷ ShrSlice ℓ κ u8 ∷ Rs)) (vss : Valss (R₀ ∷ R₁ ∷ R₂ ∷ R₃ ∷ R₄ ∷ ShrSlice ℓ κ u8 ∷ Rs)) where
  open 𝓛 use {H, A}

  abbrev Sixth : SProp 𝓤
  Sixth = sep 𝓤 (sep 𝓤 t₀ (sep 𝓤 t₁ (sep 𝓤 t₂ (sep 𝓤 (A.lft κ q) ts)))) (sem 𝓛 (owns
      (R₀ ∷ R₁ ∷ R₂ ∷ R₃ ∷ R₄ ∷ ShrSlice ℓ κ u8 ∷ Rs) a vss))

  pub sixth_bytes : ent 𝓤 Sixth (H.⇛ (sep 𝓤 Sixth (fact 𝓤 (Bytes a.1.1.1.1.1.0.now))))
  sixth_bytes =
      qed 𝓛 ((raw t₀ ⊛ raw t₁ ⊛ raw t₂ ⊛ ‵ (flft κ q) ⊛ raw ts) ∷ ‵ (owns (R₀ ∷ R₁ ∷ R₂ ∷ R₃ ∷ R₄ ∷ ShrSlice ℓ κ u8 ∷ Rs) a vss) ∷ [])
      ∵ updating ! $
      split ! $ move ! (1 ∷ []) $ split ! $ move ! (1 ∷ []) $ split ! $ move ! (1 ∷ []) $ split ! $ move ! (5 ∷ []) $
      fsplit ! $ move ! (1 ∷ []) $ fsplit ! $ move ! (1 ∷ []) $ fsplit ! $ move ! (1 ∷ []) $ fsplit ! $ move ! (1 ∷ []) $ fsplit ! $
      move ! (1 ∷ []) $ fsplit ! $ move ! (0 ∷ 7 ∷ []) $
      use2 𝓛 (later ((‵ ((ShrSlice ℓ κ u8).own_val a.1.1.1.1.1.0 vss.1.1.1.1.1.0) ⊛ ‵ (flft κ q)) ⊛ raw (fact 𝓤 (Bytes a.1.1.1.1.1.0.now))))
      (sees_bytes 𝓛 ℓ κ q a.1.1.1.1.1.0 vss.1.1.1.1.1.0) $ await ! tt $ split ! $ move ! (1 ∷ []) $ heard !
      (Bytes a.1.1.1.1.1.0.now) (λ h.
      split ! $ at_once ! $ says ! h $ move ! (1 ∷ 8 ∷ []) $ join ! $ move ! (8 ∷ 0 ∷ []) $ join ! $ move ! (8 ∷ 0 ∷ []) $ join ! $
      move ! (8 ∷ 0 ∷ []) $ join ! $ frame ! $
      fjoin ! $ move ! (1 ∷ 0 ∷ []) $ fjoin ! $ move ! (1 ∷ 0 ∷ []) $ fjoin ! $ move ! (1 ∷ 0 ∷ []) $ fjoin ! $ move ! (1 ∷ 0 ∷ []) $
      fjoin ! $ move ! (1 ∷ 0 ∷ []) $ fjoin ! $ done !)

-- the first parameter: a value, and a `&[u8]` with the first lifetime
module _ {M : Type 1} {𝓤 : Ura M} (𝓛 : Logic 𝓤) (ts : SProp 𝓤) (Rs : List RattleType) where
  open 𝓛 use {H, A}

  pub first_is : (R : RattleType) (a : Denots (R ∷ Rs)) (vss : Valss (R ∷ Rs)) (φ : Type 0) → (Is R a.0 vss.0 → φ)
      → ent 𝓤 (sep 𝓤 ts (sem 𝓛 (owns (R ∷ Rs) a vss))) (H.⇛ (sep 𝓤 (sep 𝓤 ts (sem 𝓛 (owns (R ∷ Rs) a vss))) (fact 𝓤 φ)))
  first_is R a vss φ h =
      qed 𝓛 (raw ts ∷ ‵ (owns (R ∷ Rs) a vss) ∷ []) ∵ updating ! $ move ! (1 ∷ []) $ fsplit ! $ peeks ! R (Is R) (shows 𝓛 R)
      a.0 vss.0 (λ is.
      at_once ! $ says ! (h is) $ fjoin ! $ move ! (1 ∷ 0 ∷ []) $ done !)

  pub first-bytes : (ℓ : Lifetime) (κ : Lft) (q : Share) (a : Denots (ShrSlice ℓ κ u8 ∷ Rs)) (vss : Valss (ShrSlice ℓ κ u8 ∷ Rs))
      → let entry = sep 𝓤 (sep 𝓤 (A.lft κ q) ts) (sem 𝓛 (owns (ShrSlice ℓ κ u8 ∷ Rs) a vss)) in
      ent 𝓤 entry (H.⇛ (sep 𝓤 entry (fact 𝓤 (Bytes a.0.now))))
  first-bytes ℓ κ q a vss =
      qed 𝓛 ((‵ (flft κ q) ⊛ raw ts) ∷ ‵ (owns (ShrSlice ℓ κ u8 ∷ Rs) a vss) ∷ []) ∵ updating ! $ split ! $ move ! (2 ∷ []) $
      fsplit ! $ move ! (0 ∷ 2 ∷ []) $
      use2 𝓛 (later ((‵ ((ShrSlice ℓ κ u8).own_val a.0 vss.0) ⊛ ‵ (flft κ q)) ⊛ raw (fact 𝓤 (Bytes a.0.now))))
      (sees_bytes 𝓛 ℓ κ q a.0 vss.0) $ await ! tt $
      split ! $ move ! (1 ∷ []) $ heard ! (Bytes a.0.now) (λ h. split ! $ at_once ! $ says ! h $ move ! (1 ∷ 3 ∷ []) $ join ! $
      frame ! $ fjoin ! $ done !)
