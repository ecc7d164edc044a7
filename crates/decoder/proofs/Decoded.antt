-- What is found is encoded back: the bytes of an operation that was read are the operation's bytes, for all ten kinds. Each kind
-- goes field by field from its last to its first (`number_then`, `byte_then`); code and length are the same argument for all.
-- Assumes nothing.
use mathlib.Core.Path.{◌≡◌, refl, sym, ap, ◌∙◌, subst}
use mathlib.Core.Bool.{Bool, true, false, cond}
use mathlib.Core.List.{List, ◌∷◌, ◌++◌}
use Prim.Native.Nat.{ℕ, suc, ◌+◌, ◌^◌, ◌≤◌, ◌<◌}
use native.Mathlib.Nat.{add-zero, mod-eq_of_lt}
use native.Mathlib.Omega.{arith}
use lib.Dec.{eqb}
use lib.ListN.{length, get_or, drop}
use lib.Seq.{drop-cons}
use borrow.Author.Tests.{eqb-true}
use Rattle.operation.specs.Number.{little_endian, number_at, Bytes}
use Rattle.operation.specs.Format.{code_of, head_length, length_of, fields_of, header, encode, TypedOperation}
use Rattle.operation.specs.declared.Operation.{Operation}
use Rattle.operation.specs.declared.Operation.TheVariants.{FormatError}
use Rattle.operation.proofs.Numbers.{number-here, number_small, byte_small, drop-bytes}
use Rattle.decoder.specs.Front.{Kind, format_error, can, fd, xl, confirm, arbitration_lost, bus_error, configuration, status, wakeup, unknown, kind_of, holds, shape_of, decode}
use Rattle.std.proofs.Common.{Ok}
use Rattle.decoder.proofs.Found.{judged}

-- ---- the code of a kind

abbrev CodeIs : Kind → ℕ → Type 0
CodeIs format_error c = c ≡ 0x01
CodeIs can c = c ≡ 0x10
CodeIs fd c = c ≡ 0x11
CodeIs xl c = c ≡ 0x12
CodeIs confirm c = c ≡ 0x20
CodeIs arbitration_lost c = c ≡ 0x30
CodeIs bus_error c = c ≡ 0x31
CodeIs configuration c = c ≡ 0x40
CodeIs status c = c ≡ 0x41
CodeIs wakeup c = c ≡ 0x42
CodeIs unknown c = Unit {0}

-- one line of the table of codes
line : (c code : ℕ) (k rest found : Kind) → (c ≡ code → CodeIs k c) → (rest ≡ found → CodeIs found c) → cond (eqb c code) k rest ≡ found → CodeIs found c
line c code k rest found f g e = go (eqb c code) refl e
  where
    go : (b : Bool) → eqb c code ≡ b → cond b k rest ≡ found → CodeIs found c
    go true q e = subst (λ (x : Kind). CodeIs x c) e (f (eqb-true c code q))
    go false q e = g e

code_of_kind : (c : ℕ) (k : Kind) → kind_of c ≡ k → CodeIs k c
code_of_kind c k e =
    line c 0x01 format_error _ k (λ q. q)
    (line c 0x10 can _ k (λ q. q)
    (line c 0x11 fd _ k (λ q. q)
    (line c 0x12 xl _ k (λ q. q)
    (line c 0x20 confirm _ k (λ q. q)
    (line c 0x30 arbitration_lost _ k (λ q. q)
    (line c 0x31 bus_error _ k (λ q. q)
    (line c 0x40 configuration _ k (λ q. q)
    (line c 0x41 status _ k (λ q. q)
    (line c 0x42 wakeup unknown k (λ q. q) (λ q. subst (λ (x : Kind). CodeIs x c) q tt))))))))))
    e

module _ (t : List ℕ) (u : Bytes t) where
  -- ---- the bytes of an operation, from a field on

  number_then : (w at : ℕ) {rest : List ℕ} → at + w ≤ length t → rest ≡ drop (at + w) t → little_endian w (number_at w t at) ++ rest ≡ drop at t
  number_then w at h e = rw e (number-here t u w at h)

  byte_then : (at : ℕ) {rest : List ℕ} → at < length t → rest ≡ drop (suc at) t → get_or t at 0 ∷ rest ≡ drop at t
  byte_then at h e = rw e (sym (drop-cons t at 0 h))

  -- code, length field, and the rest
  rebuilt : (op : Operation) → 8 ≤ length t → number_at 4 t 0 ≡ code_of op → number_at 4 t 4 ≡ length_of op
      → fields_of op ++ drop (head_length op) t ≡ drop 8 t → encode op (drop (head_length op) t) ≡ t
  unfolding header encode
  rebuilt op h c n f =
      ap (λ (l : List ℕ). little_endian 4 (code_of op) ++ (little_endian 4 (length_of op) ++ l)) f
      ∙ ap (λ (k : ℕ). little_endian 4 (code_of op) ++ (little_endian 4 k ++ drop 8 t)) (sym n)
      ∙ ap (λ (l : List ℕ). little_endian 4 (code_of op) ++ l) (number-here t u 4 4 h)
      ∙ ap (λ (k : ℕ). little_endian 4 k ++ drop 4 t) (sym c)
      ∙ number-here t u 4 0 (omega arith)

  small : (w at : ℕ) → number_at w t at < 256 ^ w
  small w at = number_small w (drop at t) (drop-bytes at t u)

  byte : (at : ℕ) → get_or t at 0 < 256
  byte at = byte_small t at u

  -- an operation's numbers fit, and its bytes are t
  pub record Back (op : Operation) : Type 0 where
    pub typed : TypedOperation op
    pub same : encode op (drop (head_length op) t) ≡ t

  module _ (stated : number_at 4 t 4 ≡ length t) where
    -- an operation whose shape the bytes have
    of-shape : (n : ℕ) (o : Operation) (least : ℕ) (op : Operation) → holds n o ≡ holds least op → least ≤ length t → length t ≡ length_of op
        → (n ≤ length t → number_at 4 t 4 ≡ length_of o → Back o) → Back op
    of-shape n o least op q h s f =
        let same : o ≡ op = cc in
        let m : n ≡ least = cc in
        subst Back same (f (omega arith) (stated ∙ s ∙ sym (ap length_of same)))

    -- what a Configuration carries, by whether its kind is 4
    setting-then : (b : Bool) → length t ≡ cond b 10 13
        → cond b (little_endian 1 (cond b (get_or t 9 0) (number_at 4 t 9))) (little_endian 4 (cond b (get_or t 9 0) (number_at 4 t 9))) ++ drop (cond b 10 13) t
        ≡ drop 9 t
    setting-then true h = rw (mod-eq_of_lt (byte 9)) (byte_then 9 (omega arith) refl)
    setting-then false h = number_then 4 9 (omega arith) refl

    setting-small : (b : Bool) → cond b (get_or t 9 0) (number_at 4 t 9) < 2 ^ 32
    setting-small true = omega (arith, byte 9)
    setting-small false = small 4 9

    -- by the kind that the bytes were taken for
    by_kind : (k : Kind) (least : ℕ) (op : Operation) → CodeIs k (number_at 4 t 0) → shape_of k t ≡ holds least op → least ≤ length t
        → length t ≡ length_of op → Back op
    unfolding shape_of
    by_kind format_error least op c q h s =
        of-shape 10 (FormatError (number_at 2 t 8)) least op q h s
        (λ h n. record { typed = small 2 8; same = rebuilt _ (omega arith) c n (number_then 2 8 h refl) })
    by_kind can least op c q h s =
        of-shape 16 _ least op q h s
        (λ h n. record {
          typed = (small 4 8, byte 12, byte 13, small 2 14);
          same =
              rebuilt _ (omega arith) c n
              (number_then 4 8 (omega arith) (byte_then 12 (omega arith) (byte_then 13 (omega arith) (number_then 2 14 h refl))));
        })
    by_kind fd least op c q h s =
        of-shape 17 _ least op q h s
        (λ h n. record {
          typed = (small 4 8, byte 12, byte 13, byte 14, small 2 15);
          same =
              rebuilt _ (omega arith) c n
              (number_then 4 8 (omega arith)
              (byte_then 12 (omega arith) (byte_then 13 (omega arith) (byte_then 14 (omega arith) (number_then 2 15 h refl)))));
        })
    by_kind xl least op c q h s =
        of-shape 22 _ least op q h s
        (λ h n. record {
          typed = (small 4 8, byte 12, byte 13, byte 14, byte 15, small 4 16, small 2 20);
          same =
              rebuilt _ (omega arith) c n
              (number_then 4 8 (omega arith)
              (byte_then 12 (omega arith)
              (byte_then 13 (omega arith)
              (byte_then 14 (omega arith) (byte_then 15 (omega arith) (number_then 4 16 (omega arith) (number_then 2 20 h refl)))))));
        })
    by_kind confirm least op c q h s =
        of-shape 12 _ least op q h s (λ h n. record { typed = small 4 8; same = rebuilt _ (omega arith) c n (number_then 4 8 h refl) })
    by_kind arbitration_lost least op c q h s =
        of-shape 12 _ least op q h s (λ h n. record { typed = small 4 8; same = rebuilt _ (omega arith) c n (number_then 4 8 h refl) })
    by_kind bus_error least op c q h s =
        of-shape 15 _ least op q h s
        (λ h n. record {
          typed = (small 4 8, byte 12, byte 13, byte 14);
          same =
              rebuilt _ (omega arith) c n
              (number_then 4 8 (omega arith) (byte_then 12 (omega arith) (byte_then 13 (omega arith) (byte_then 14 h refl))));
        })
    by_kind configuration least op c q h s =
        of-shape 9 _ least op q h s
        (λ h n. let four = eqb (get_or t 8 0) 4 in
        record {
          typed = (byte 8, setting-small four);
          same = rebuilt _ (omega arith) c n (byte_then 8 h (setting-then four (sym stated ∙ n ∙ add-zero _)));
        })
    by_kind status least op c q h s =
        of-shape 9 _ least op q h s (λ h n. record { typed = byte 8; same = rebuilt _ (omega arith) c n (byte_then 8 h refl) })
    by_kind wakeup least op c q h s =
        of-shape 8 _ least op q h s (λ h n. record { typed = tt; same = rebuilt _ h c n refl })
    by_kind unknown least op c q h s = let z : ◌≡◌ {A = ℕ} 0 1 = cc in absurd (omega arith)

    -- the bytes of an operation that was found are its bytes
    pub decoded : (op : Operation) → decode t ≡ Ok op → Back op
    unfolding decode
    decoded op e =
        let k = kind_of (number_at 4 t 0) in
        let j = judged (length t) (shape_of k t) op e in
        by_kind k j.least op (code_of_kind (number_at 4 t 0) k refl) j.shape j.enough j.exact
