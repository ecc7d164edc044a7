-- What a flat record names is the operation that it was made of, and what a record names is made of it again but for fields that its
-- kind does not have.
-- Assumes nothing.
use Prim.Native.Nat.{ℕ, ◌<◌, ◌^◌}
use mathlib.Core.Path.{◌≡◌, refl, sym, ap, ◌∙◌, subst}
use mathlib.Core.Bool.{Bool, true, false, cond}
use native.Mathlib.Omega.{arith}
use lib.Dec.{eqb}
use borrow.Author.Tests.{eqb-true}
use Rattle.std.specs.Prelude.{Some, None}
use Rattle.operation.specs.Format.{TypedOperation}
use Rattle.operation.specs.declared.Operation.{Operation}
use Rattle.operation.specs.declared.Operation.TheVariants.{FormatError, CanTransmit, FdTransmit, XlTransmit, Confirm, ArbitrationLost, BusError, Configuration, Status, Wakeup}
use Rattle.decoder.specs.Front.{Kind, format_error, can, fd, xl, confirm, arbitration_lost, bus_error, configuration, status, wakeup, unknown, kind_of}
use Rattle.kettlefrost.specs.Flat.{flat_row, flat, by_kind, named}
use Rattle.kettlefrost.specs.declared.FlatOperation.{FlatOperation}
use Rattle.claims.specs.RoundTrip.{cleared, clear}

-- a record whose numbers fit the types of their fields
pub record TypedFlat (f : FlatOperation) : Type 0 where
  pub id : f.id < 2 ^ 32
  pub word : f.word < 2 ^ 32
  pub length : f.length < 2 ^ 16
  pub first : f.first < 2 ^ 8
  pub second : f.second < 2 ^ 8
  pub third : f.third < 2 ^ 8
  pub fourth : f.fourth < 2 ^ 8

same_some : {a b : Operation} → Some a ≡ Some b → a ≡ b
same_some e = cc

not_some : {P : Type 0} {op : Operation} → None ≡ Some op → P
not_some e = let z : ◌≡◌ {A = ℕ} 0 1 = cc in absurd (omega arith)

-- one line of the table of codes
line : (P : Kind → Type 0) (c code : ℕ) (k rest : Kind) → (c ≡ code → P k) → P rest → P (cond (eqb c code) k rest)
line P c code k rest f g = go (eqb c code) refl
  where
    go : (b : Bool) → eqb c code ≡ b → P (cond b k rest)
    go true q = f (eqb-true c code q)
    go false q = g

module _ (f : FlatOperation) (op : Operation) where
  abbrev Back : Kind → Type 0
  Back k = by_kind k f ≡ Some op → flat op ≡ cleared k f

  -- the row of a kind, from what it names
  row : (k : Kind) (code : ℕ) {o : Operation} → by_kind k f ≡ Some o
      → flat o ≡ record {
        code = code;
        id = (cleared k f).id;
        word = (cleared k f).word;
        length = (cleared k f).length;
        first = (cleared k
            f).first;
        second = (cleared k f).second;
        third = (cleared k f).third;
        fourth = (cleared k f).fourth;
      }
      → (cleared k f).code ≡ f.code → f.code ≡ code → Back k
  row k code {o} e t same q h =
      let is : o ≡ op = same_some (sym e ∙ h) in
      sym (ap flat is) ∙ t
      ∙ ap (λ (c : ℕ). flat_row c (cleared k f).id (cleared k f).word (cleared k f).length (cleared k f).first
      (cleared k f).second (cleared k f).third (cleared k f).fourth) (sym (same ∙ q))

  pub flat-named : named f ≡ Some op → flat op ≡ clear f
  unfolding named
  flat-named =
      line Back f.code 0x01 format_error _ (row format_error 0x01 refl refl refl)
      (line Back f.code 0x10 can _ (row can 0x10 refl refl refl)
      (line Back f.code 0x11 fd _ (row fd 0x11 refl refl refl)
      (line Back f.code 0x12 xl _ (row xl 0x12 refl refl refl)
      (line Back f.code 0x20 confirm _ (row confirm 0x20 refl refl refl)
      (line Back f.code 0x30 arbitration_lost _ (row arbitration_lost 0x30 refl refl refl)
      (line Back f.code 0x31 bus_error _ (row bus_error 0x31 refl refl refl)
      (line Back f.code 0x40 configuration _ (row configuration 0x40 refl refl refl)
      (line Back f.code 0x41 status _ (row status 0x41 refl refl refl)
      (line Back f.code 0x42 wakeup unknown (row wakeup 0x42 refl refl refl) (λ e. not_some e))))))))))

  -- what a record of typed fields names is typed
  pub named-typed : TypedFlat f → named f ≡ Some op → TypedOperation op
  unfolding named
  named-typed t = go (kind_of f.code)
    where
      of : (o : Operation) → TypedOperation o → Some o ≡ Some op → TypedOperation op
      of o y e = subst TypedOperation (same_some e) y

      go : (k : Kind) → by_kind k f ≡ Some op → TypedOperation op
      go format_error = of (FormatError f.length) t.length
      go can = of (CanTransmit f.id f.first f.second f.length) (t.id, t.first, t.second, t.length)
      go fd = of (FdTransmit f.id f.first f.second f.third f.length) (t.id, t.first, t.second, t.third, t.length)
      go xl = of (XlTransmit f.id f.first f.second f.third f.fourth f.word f.length)
          (t.id, t.first, t.second, t.third, t.fourth, t.word, t.length)
      go confirm = of (Confirm f.id) t.id
      go arbitration_lost = of (ArbitrationLost f.id) t.id
      go bus_error = of (BusError f.id f.first f.second f.third) (t.id, t.first, t.second, t.third)
      go configuration = of (Configuration f.first f.word) (t.first, t.word)
      go status = of (Status f.first) t.first
      go wakeup = of (Wakeup) tt
      go unknown = λ e. not_some e
