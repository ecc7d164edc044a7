-- Laws of an operation's length: the header's bytes are as many as the table says, and few; the data of a Transmit are at most 2,048.
-- Assumes nothing.
use mathlib.Core.Path.{◌≡◌, refl, ◌∙◌}
use mathlib.Core.Bool.{Bool, true, false, cond, ◌||◌}
use mathlib.Core.List.{List, [], ◌∷◌}
use Prim.Native.Nat.{ℕ, suc, ◌+◌, ◌≤◌}
use native.Mathlib.Omega.{arith}
use lib.Dec.{leb, eqb, lit≤}
use lib.ListN.{length, length-append}
use borrow.Author.Tests.{leb-true}
use Rattle.operation.specs.Number.{little_endian}
use Rattle.operation.specs.Format.{head_length, data_length, fields_of, header, encode}
use Rattle.operation.specs.Kinds.{is_transmit}
use Rattle.operation.specs.Rules.{one_of, fd_length, rules, legal}
use Rattle.operation.specs.declared.Operation.{Operation}
use Rattle.operation.specs.declared.Operation.TheVariants.{FormatError, CanTransmit, FdTransmit, XlTransmit, Confirm, ArbitrationLost, BusError, Configuration, Status, Wakeup}
use Rattle.operation.proofs.Tests.{false_is_true, both, passed, one_small}

configuration_small : (b : Bool) → cond b 10 13 ≤ 22
configuration_small true = lit≤ tt
configuration_small false = lit≤ tt

pub head_small : (op : Operation) → head_length op ≤ 22
head_small (FormatError n) = lit≤ tt
head_small (CanTransmit id ide rtr dl) = lit≤ tt
head_small (FdTransmit id ide brs esi dl) = lit≤ tt
head_small (XlTransmit id ide sec sdt vcid af dl) = lit≤ tt
head_small (Confirm id) = lit≤ tt
head_small (ArbitrationLost id) = lit≤ tt
head_small (BusError id code flag sender) = lit≤ tt
head_small (Configuration kind value) = configuration_small (eqb kind 4)
head_small (Status status) = lit≤ tt
head_small Wakeup = lit≤ tt

-- what a Configuration carries takes up the rest of it
setting-length : (value : ℕ) (b : Bool) → 8 + suc (length (cond b (little_endian 1 value) (little_endian 4 value))) ≡ cond b 10 13
setting-length value true = refl
setting-length value false = refl

fields-length : (op : Operation) → 8 + length (fields_of op) ≡ head_length op
fields-length (FormatError n) = refl
fields-length (CanTransmit id ide rtr dl) = refl
fields-length (FdTransmit id ide brs esi dl) = refl
fields-length (XlTransmit id ide sec sdt vcid af dl) = refl
fields-length (Confirm id) = refl
fields-length (ArbitrationLost id) = refl
fields-length (BusError id code flag sender) = refl
fields-length (Configuration kind value) = setting-length value (eqb kind 4)
fields-length (Status status) = refl
fields-length Wakeup = refl

pub header-length : (op : Operation) → length (header op) ≡ head_length op
unfolding header
header-length op = omega (arith, fields-length op)

pub encode-length : (op : Operation) (payload : List ℕ) → length (encode op payload) ≡ head_length op + length payload
unfolding encode
encode-length op payload = length-append (header op) payload ∙ rw (header-length op)

pub head_least : (op : Operation) → 8 ≤ head_length op
head_least op = omega (arith, fields-length op)

-- ---- of the data

pub fd-short : (dl : ℕ) → fd_length dl ≡ true → dl ≤ 64
unfolding fd_length one_of
fd-short dl e = go (leb dl 8) refl e
  where
    go : (t : Bool) → leb dl 8 ≡ t → (t || one_of dl (12 ∷ 16 ∷ 20 ∷ 24 ∷ 32 ∷ 48 ∷ 64 ∷ [])) ≡ true → dl ≤ 64
    go true q e = omega (arith, leb-true dl 8 q)
    go false q e =
        one_small dl 12 _ e (λ q. omega arith)
        (λ e. one_small dl 16 _ e (λ q. omega arith)
        (λ e. one_small dl 20 _ e (λ q. omega arith)
        (λ e. one_small dl 24 _ e (λ q. omega arith)
        (λ e. one_small dl 32 _ e (λ q. omega arith)
        (λ e. one_small dl 48 _ e (λ q. omega arith) (λ e. one_small dl 64 _ e (λ q. omega arith) (λ e. false_is_true e)))))))

-- a Transmit that meets the content rules has at most 2,048 data bytes
pub transmit-short : (op : Operation) → is_transmit op ≡ true → legal op ≡ true → data_length op ≤ 2_048
unfolding legal rules
transmit-short (FormatError n) t l = false_is_true t
transmit-short (CanTransmit id ide rtr dl) t l = omega (arith, leb-true dl 8 (passed _ l 3))
transmit-short (FdTransmit id ide brs esi dl) t l = omega (arith, fd-short dl (passed _ l 4))
transmit-short (XlTransmit id ide sec sdt vcid af dl) t l = leb-true dl 2_048 (both (leb 1 dl) (leb dl 2_048) (passed _ l 3)).1
transmit-short (Confirm id) t l = false_is_true t
transmit-short (ArbitrationLost id) t l = false_is_true t
transmit-short (BusError id code flag sender) t l = false_is_true t
transmit-short (Configuration kind value) t l = false_is_true t
transmit-short (Status status) t l = false_is_true t
transmit-short Wakeup t l = false_is_true t
