-- Theorems 1 to 3 proved, from what is encoded is found, what is found is encoded back, and each reading moves forward.
-- Assumes nothing.
use mathlib.Core.Path.{◌≡◌, refl, sym, ap, ◌∙◌}
use mathlib.Core.Bool.{true}
use mathlib.Core.List.{List, ◌++◌}
use Prim.Native.Nat.{ℕ, ◌+◌, ◌-◌, ◌≤◌, ◌<◌}
use native.Mathlib.Omega.{arith}
use lib.ListN.{length, take, drop, length-drop, drop_of_length-le}
use lib.Seq.{drop-append_seam, take_at, drop_at, length-take-le}
use Rattle.operation.specs.Number.{Bytes}
use Rattle.operation.specs.Format.{head_length, data_length, length_of, header, encode, TypedOperation}
use Rattle.operation.specs.Rules.{legal}
use Rattle.operation.specs.declared.Operation.{Operation}
use Rattle.operation.specs.declared.Operation.TheVariants.{FormatError, CanTransmit, FdTransmit, XlTransmit, Confirm, ArbitrationLost, BusError, Configuration, Status, Wakeup}
use Rattle.operation.proofs.Numbers.{take-bytes, drop-bytes}
use Rattle.operation.proofs.Sizes.{header-length, encode-length}
use Rattle.std.proofs.Common.{Option, None, Some, Ok}
use Rattle.decoder.specs.Front.{sized, front, taken}
use Rattle.decoder.specs.Reading.{placed, read_at, data_at}
use Rattle.decoder.specs.declared.Front.{Front}
use Rattle.decoder.proofs.Decoded.{Back, decoded}
use Rattle.decoder.proofs.Encoded.{encoded}
use Rattle.decoder.proofs.Forward.{forward}
use Rattle.decoder.proofs.Found.{found, stated-own}
use Rattle.decoder.proofs.Payload.{data_found}
use Rattle.decoder.proofs.Streams.{front-nil, items-joined}
use Rattle.decoder.proofs.Items.{next-item}
use Rattle.encoder.specs.Writing.{write_outcome}
use Rattle.encoder.proofs.Answers.{accepted, accepts, written-bytes}
use Rattle.codec.specs.Claims.{ReadsAs, WrittenReads, WritesAs, ReadWrites, after, ReadsThrough}

-- ---- theorem 1

-- an operation's bytes past its header are its data
encoded_data : (op : Operation) (payload : List ℕ) → drop (head_length op) (encode op payload) ≡ payload
unfolding encode
encoded_data op payload = drop_at (header op) payload (head_length op) (header-length op)

-- encoded bytes are read, wherever they stand
reads_as : (op : Operation) (payload before rest : List ℕ) → TypedOperation op → legal op ≡ true → length payload ≡ data_length op → data_length op < 65536
    → ReadsAs (before ++ (encode op payload ++ rest)) (length before) op payload (length_of op)
unfolding read_at
reads_as op payload before rest ty l w s =
    let t = encode op payload in
    let here : drop (length before) (before ++ (encode op payload ++ rest)) ≡ encode op payload ++ rest = drop-append_seam before (t ++ rest) in
    let f : front (drop (length before) (before ++ (encode op payload ++ rest))) ≡ Some (sized (Ok op) (length_of op)) =
    ap front here ∙ encoded op payload rest ty l w s in
    let size : length (encode op payload) ≡ length_of op = encode-length op payload ∙ ap (λ (k : ℕ). head_length op + k) w in
    record {
      operation = ap (placed (length before)) f;
      payloads =
          data_found (before ++ (t ++ rest)) (length before) op (length_of op) f
          ∙ ap (λ (x : List ℕ). drop (head_length op) (take (length_of op) x)) here
          ∙ ap (drop (head_length op)) (take_at t rest (length_of op) size)
          ∙ encoded_data op payload;
    }

pub written-reads : WrittenReads
written-reads op payload buffer n ty e before rest =
    let a = accepted e in
    rw (written-bytes op payload buffer e, a.size)
    (reads_as op payload before rest ty a.lawful a.whole (omega (arith, a.whole, a.short)))

-- ---- theorem 2

data_typed : (op : Operation) → TypedOperation op → data_length op < 65536
data_typed (FormatError n) ty = ty
data_typed (CanTransmit id ide rtr dl) ty = ty.3
data_typed (FdTransmit id ide brs esi dl) ty = ty.4
data_typed (XlTransmit id ide sec sdt vcid af dl) ty = ty.6
data_typed (Confirm id) ty = omega arith
data_typed (ArbitrationLost id) ty = omega arith
data_typed (BusError id code flag sender) ty = omega arith
data_typed (Configuration kind value) ty = omega arith
data_typed (Status status) ty = omega arith
data_typed Wakeup ty = omega arith

-- an operation that was found writes back to its bytes
writes_as : (s : List ℕ) (at : ℕ) (op : Operation) (n : ℕ) → Bytes s → front (drop at s) ≡ Some (sized (Ok op) n)
    → TypedOperation op × ((buffer : List ℕ) → n ≤ length buffer → WritesAs op (data_at s op (at + n)) buffer (take n (drop at s)) n)
writes_as s at op n u e =
    let f = found e in
    let t = take n (drop at s) in
    let size : length (take n (drop at s)) ≡ n = length-take-le n (drop at s) f.within in
    let b : Back (take n (drop at s)) (take-bytes n (drop at s) (drop-bytes at s u)) op =
    decoded t (take-bytes n (drop at s) (drop-bytes at s u)) (stated-own (drop at s) f ∙ sym size) op f.decoded in
    let d : data_at s op (at + n) ≡ drop (head_length op) (take n (drop at s)) = data_found s at op n e in
    let whole : length (data_at s op (at + n)) ≡ data_length op =
    ap length d ∙ length-drop (head_length op) t ∙ omega (arith, f.exact) in (
      b.typed,
      λ buffer room.
          let answer : write_outcome op (length (data_at s op (at + n))) (length buffer) ≡ Ok n =
          accepts op (length (data_at s op (at + n))) (length buffer) f.lawful whole (omega (arith, data_typed op b.typed)) (omega (arith, f.exact))
          ∙ ap Ok (sym f.exact) in
          record {
            answer = answer;
            same = written-bytes op (data_at s op (at + n)) buffer answer ∙ ap (encode op) d ∙ b.same;
          },
    )

pub read_writes : ReadWrites
read_writes s at next op u e =
    let n = next-item s at e in
    let p : at + (next - at) ≡ next = omega (arith, n.further) in
    rw p at (writes_as s at op (next - at) u n.stands)

-- ---- theorem 3

goes_on_lem : (at : ℕ) (f : Option Front) → after at (placed at f) ≡ at + taken f
goes_on_lem at None = omega arith
goes_on_lem at (Some f) = refl

pub reads_through : (s : List ℕ) → ReadsThrough s
unfolding read_at
reads_through s = record {
  forward = λ at h.
      let l : length (drop at s) ≡ length s - at = length-drop at s in
      let m = forward (drop at s) (omega arith) in
      rw (goes_on_lem at (front (drop at s))) (omega arith);
  end = λ at h. rw (drop_of_length-le s h, front-nil);
  whole = items-joined s;
}
