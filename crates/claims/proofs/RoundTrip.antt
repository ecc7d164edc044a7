-- Demand 2, of the bytes: codec's theorems through the records of the calls for C.
-- Assumes nothing.
use Prim.Native.Nat.{ℕ, ◌+◌, ◌-◌, ◌≤◌, ◌<◌}
use mathlib.Core.Path.{◌≡◌, refl, sym, ap, ◌∙◌, subst}
use mathlib.Core.Bool.{Bool, true, false, cond, not, ◌&&◌, ◌||◌}
use mathlib.Core.List.{List, [], ◌++◌}
use native.Mathlib.Nat.{zero-add}
use native.Mathlib.Omega.{arith}
use lib.Dec.{leb, ltb, eqb}
use lib.ListN.{length, take, drop, length-drop}
use lib.Seq.{length-take-le, drop-append_seam}
use borrow.Author.Tests.{leb-true, eqb-true}
use Rattle.std.specs.Prelude.{Option, Some, None}
use Rattle.operation.specs.Number.{Bytes, number_at}
use Rattle.buffers.specs.Parts.{over}
use Rattle.operation.specs.Format.{data_length, length_of, encode}
use Rattle.operation.specs.Rules.{legal}
use Rattle.operation.specs.declared.Operation.{Operation}
use Rattle.operation.proofs.Sizes.{encode-length}
use Rattle.operation.proofs.Tests.{both}
use Rattle.std.proofs.Common.{Option, None, Some, Result, Ok, Err}
use Rattle.decoder.specs.Front.{front}
use Rattle.decoder.specs.Reading.{ending, placed, read_at, data_at}
use Rattle.decoder.specs.declared.Fault.{Fault}
use Rattle.decoder.specs.declared.Fault.TheVariants as faults
use Rattle.decoder.specs.declared.Front.{Front}
use Rattle.decoder.specs.declared.Reading.{Reading}
use Rattle.encoder.specs.Writing.{Written, written_number, decision, write_outcome, buffer_written, written_of}
use Rattle.encoder.proofs.Answers.{accepted}
use Rattle.encoder.specs.declared.WriteError.TheVariants.{RuleBroken, BufferTooSmall}
use Rattle.codec.specs.Claims.{ReadsAs, WritesAs, after}
use Rattle.codec.proofs.Claims.{written-reads, read_writes, reads_through}
use Rattle.kettlefrost.specs.Flat.{flat, named}
use Rattle.kettlefrost.specs.Calls.{item_answer, read_answer, part_of, data_answer, write_answer, buffer_after_write, length_written}
use Rattle.kettlefrost.specs.declared.FlatOperation.{FlatOperation}
use Rattle.kettlefrost.specs.declared.ReadAnswer.{ReadAnswer}
use Rattle.kettlefrost.specs.declared.WriteAnswer.{WriteAnswer}
use Rattle.claims.specs.Numbers.{first_row, can_write, fits_in, write_rows}
use Rattle.claims.specs.RoundTrip.{read_in, part_in, data_in, ReadsBack, WritesBack, Read, Wrote, ItemsWhole}
use Rattle.kettlefrost.proofs.Tables.{named_flat}
use Rattle.claims.proofs.Named.{TypedFlat, flat-named, named-typed}

-- ---- the part that kf_data says is the data

part_in_lem : (s bytes : List ℕ) (end : ℕ) → bytes ≡ take (length bytes) (drop (end - length bytes) s) → part_in s (part_of bytes end) ≡ bytes
part_in_lem s bytes end h = go (eqb (length bytes) 0) refl
  where
    go : (b : Bool) → eqb (length bytes) 0 ≡ b
        → part_in s (cond b (record { start = 0; length = 0 }) (record { start = end - length bytes; length = length bytes })) ≡ bytes
    go true q = sym (h ∙ ap (λ (k : ℕ). take k (drop (end - k) s)) (eqb-true (length bytes) 0 q))
    go false q = sym h

data_part : (s : List ℕ) (op : Operation) (end : ℕ) → part_in s (part_of (data_at s op end) end) ≡ data_at s op end
unfolding data_at
data_part s op end = part_in_lem s (data_at s op end) end (go (leb (length_of op) end && leb end (length s)) refl)
  where
    n : ℕ
    n = data_length op

    go : (t : Bool) → (leb (length_of op) end && leb end (length s)) ≡ t
        → let bytes = cond t (take n (drop (end - n) s)) [] in bytes ≡ take (length bytes) (drop (end - length bytes) s)
    go true e =
        let p = both (leb (length_of op) end) (leb end (length s)) e in
        let a = leb-true (length_of op) end p.0 in
        let b = leb-true end (length s) p.1 in
        let l : length (drop (end - n) s) ≡ length s - (end - n) = length-drop (end - n) s in
        let len : length (take n (drop (end - n) s)) ≡ n = length-take-le n (drop (end - n) s) (omega arith) in
        ap (λ (k : ℕ). take k (drop (end - k) s)) (sym len)
    go false e = refl

-- what is read, by the operation
module _ (s : List ℕ) (at : ℕ) (op : Operation) (next : ℕ) (e : read_at s at ≡ Some (ending (Ok op) next)) where
  read_as : read_in s at ≡ record { end = 0; fault = 0; next = next; operation = flat op }
  read_as = ap (read_answer at) e

  data_as : data_in s (read_in s at) ≡ data_at s op next
  data_as =
      ap (data_in s) read_as ∙ ap (λ (n : Option Operation). part_in s (data_answer s n next)) (named_flat op) ∙ data_part s op next

-- ---- what is written reads back

written_back : (f : FlatOperation) (payload buffer : List ℕ) → TypedFlat f
    → let a = write_answer (named f) (length payload) (length buffer) in
    a.refusal ≡ 0 → (before rest : List ℕ)
    → ReadsBack (before ++ (take a.length (buffer_after_write (named f) payload buffer) ++ rest)) (length before) f payload a.length
written_back f payload buffer t h before rest = go (named f) refl h
  where
    Back : Option Operation → Type 0
    Back n =
        let k = (write_answer n (length payload) (length buffer)).length in
        ReadsBack (before ++ (take k (buffer_after_write n payload buffer) ++ rest)) (length before) f payload k

    known : (op : Operation) → named f ≡ Some op → (w : Written) → write_outcome op (length payload) (length buffer) ≡ w
        → written_number w ≡ 0
        → ReadsBack (before ++ (take (length_written w) (written_of op payload buffer) ++ rest)) (length before) f payload (length_written w)
    known op q (Ok n) e z =
        let s = before ++ (take n (written_of op payload buffer) ++ rest) in
        let r : ReadsAs (before ++ (take n (written_of op payload buffer) ++ rest)) (length before) op payload n =
        written-reads op payload buffer n (named-typed f op t q) e before rest in
        let a = read_as s (length before) op (length before + n) r.operation in
        record {
          end = ap (λ (x : ReadAnswer). x.end) a;
          fault = ap (λ (x : ReadAnswer). x.fault) a;
          next = ap (λ (x : ReadAnswer). x.next) a;
          operation = ap (λ (x : ReadAnswer). x.operation) a ∙ flat-named f op q;
          payloads = data_as s (length before) op (length before + n) r.operation ∙ r.payloads;
        }
    known op q (Err RuleBroken) e z = absurd (omega (arith, z))
    known op q (Err BufferTooSmall) e z = absurd (omega (arith, z))

    go : (n : Option Operation) → named f ≡ n → (write_answer n (length payload) (length buffer)).refusal ≡ 0 → Back n
    go None q z = absurd (omega (arith, z))
    go (Some op) q z = known op q (write_outcome op (length payload) (length buffer)) refl z

-- ---- what is read writes back

-- the operation of a reading with neither end nor fault: a fault's number is not 0
placed-read : (at : ℕ) (f : Option Front) → (read_answer at (placed at f)).end ≡ 0 → (read_answer at (placed at f)).fault ≡ 0
    → (op : Operation) × (next : ℕ) × (placed at f ≡ Some (ending (Ok op) next))
placed-read at None e z = absurd (omega (arith, e))
placed-read at (Some f) e z = by_item f.item (at + f.size) z
  where
    by_item : (i : Result Operation Fault) (end : ℕ) → (item_answer i end).fault ≡ 0
        → (op : Operation) × (next : ℕ) × (Some (ending i end) ≡ Some (ending (Ok op) next))
    by_item (Ok op) end z = (op, end, refl)
    by_item (Err faults.TooFewLeft) end z = absurd (omega (arith, z))
    by_item (Err faults.BadLength) end z = absurd (omega (arith, z))
    by_item (Err faults.UnknownCode) end z = absurd (omega (arith, z))
    by_item (Err faults.WrongLength) end z = absurd (omega (arith, z))
    by_item (Err faults.RuleBroken) end z = absurd (omega (arith, z))

read_back : (s : List ℕ) (at : ℕ) → Bytes s
    → let r = read_in s at in
    r.end ≡ 0 → r.fault ≡ 0 → (buffer : List ℕ) → r.next - at ≤ length buffer
    → WritesBack r.operation (data_in s r) buffer (take (r.next - at) (drop at s)) (r.next - at)
unfolding read_at
read_back s at u e z buffer room =
    let r = placed-read at (front (drop at s)) e z in
    back r.0 r.1 r.2
  where
    back : (op : Operation) (next : ℕ) → read_at s at ≡ Some (ending (Ok op) next)
        → WritesBack (read_in s at).operation (data_in s (read_in s at)) buffer (take ((read_in s at).next - at) (drop at s))
        ((read_in s at).next - at)
    back op next q =
        let a = read_as s at op next q in
        let w = (read_writes s at next op u q).1 buffer (subst (λ (x : ReadAnswer). x.next - at ≤ length buffer) a room) in
        subst (λ (x : ReadAnswer). WritesBack x.operation (data_in s (read_in s at)) buffer (take (x.next - at) (drop at s))
        (x.next - at)) (sym a)
        (subst (λ (l : List ℕ). WritesBack (flat op) l buffer (take (next - at) (drop at s)) (next - at)) (sym
        (data_as s at op next q)) (bytes-as op next w))
      where
        bytes-as : (op : Operation) (next : ℕ) → WritesAs op (data_at s op next) buffer (take (next - at) (drop at s)) (next - at)
            → WritesBack (flat op) (data_at s op next) buffer (take (next - at) (drop at s)) (next - at)
        bytes-as op next w =
            let d = data_at s op next in
            let n = named_flat op in
            record {
              refusal = ap (λ (x : Option Operation). (write_answer x (length d) (length buffer)).refusal) n ∙ ap written_number w.answer;
              length = ap (λ (x : Option Operation). (write_answer x (length d) (length buffer)).length) n ∙ ap length_written w.answer;
              same = ap (λ (x : Option Operation). take (next - at) (buffer_after_write x d buffer)) n ∙ w.same;
            }

-- ---- what is demanded of kf_read

-- a reading goes on where the record says
next-after : (at : ℕ) (x : Option Reading) → (read_answer at x).next ≡ after at x
next-after at None = refl
next-after at (Some r) = onward r.item r.next.at
  where
    onward : (i : Result Operation Fault) (next : ℕ) → (item_answer i next).next ≡ next
    onward (Ok op) next = refl
    onward (Err f) next = refl

read_is : (s : List ℕ) (at : ℕ) → Bytes s → Read s at (read_in s at)
read_is s at u =
    let t = reads_through s in
    record {
      answer = refl;
      ends = λ h. ap (λ (x : Option Reading). (read_answer at x).end) (t.end at h);
      forward = λ h. rw (next-after at (read_at s at)) (t.forward at h);
      back = read_back s at u;
    }

pub reads : (s : List ℕ) (at : ℕ) (r : ReadAnswer) → Bytes s → r ≡ read_in s at → Read s at r
reads s at r u e = subst (Read s at) (sym e) (read_is s at u)

-- ---- what is demanded of kf_write

write_number : (n : Option Operation) (given room : ℕ) → (write_answer n given room).refusal ≡ first_row (write_rows n given room)
unfolding write_outcome decision first_row
write_number None given room = refl
write_number (Some op) given room = go (can_write (Some op) given) (fits_in (Some op) room)
  where
    go : (t u : Bool) → written_number (cond t (cond u (Ok (length_of op)) (Err BufferTooSmall)) (Err RuleBroken)) ≡ cond (not t) 7 (cond
        (not u) 11 0)
    go true true = refl
    go true false = refl
    go false u = refl

-- what an answer of the encoder leaves of a buffer
outcome-kept : (w : Written) (bytes buffer : List ℕ) → (written_number w ≡ 0 → ⊥) → (length_written w ≡ 0) ×
    (buffer_written w bytes buffer ≡ buffer)
outcome-kept (Ok n) bytes buffer k = absurd (k refl)
outcome-kept (Err refusal) bytes buffer k = (refl, refl)

write_kept : (n : Option Operation) (payload buffer : List ℕ)
    → let a = write_answer n (length payload) (length buffer) in
    (a.refusal ≡ 0 → ⊥) → (a.length ≡ 0) × (buffer_after_write n payload buffer ≡ buffer)
unfolding written_of
write_kept None payload buffer k = (refl, refl)
write_kept (Some op) payload buffer k =
    outcome-kept (write_outcome op (length payload) (length buffer)) (encode op payload) buffer k

-- past the length written the buffer is as it was
outcome-past : (op : Operation) (payload buffer : List ℕ) (w : Written) → write_outcome op (length payload) (length buffer) ≡ w
    → drop (length_written w) (buffer_written w (encode op payload) buffer) ≡ drop (length_written w) buffer
unfolding over
outcome-past op payload buffer (Ok n) e =
    let a = accepted e in
    let size : length (encode op payload) ≡ n = encode-length op payload ∙ omega (arith, a.size, a.whole) in
    subst (λ (k : ℕ). drop k (over buffer 0 (encode op payload)) ≡ drop k buffer) size
    (drop-append_seam (encode op payload) (drop (0 + length (encode op payload)) buffer)
    ∙ ap (λ (k : ℕ). drop k buffer) (zero-add (length (encode op payload))))
outcome-past op payload buffer (Err refusal) e = refl

write_past : (n : Option Operation) (payload buffer : List ℕ)
    → let a = write_answer n (length payload) (length buffer) in
    drop a.length (buffer_after_write n payload buffer) ≡ drop a.length buffer
unfolding written_of
write_past None payload buffer = refl
write_past (Some op) payload buffer = outcome-past op payload buffer (write_outcome op (length payload) (length buffer)) refl

wrote_by : (f : FlatOperation) (payload buffer : List ℕ) → TypedFlat f
    → Wrote f payload buffer (write_answer (named f) (length payload) (length buffer)) (buffer_after_write (named f) payload buffer)
wrote_by f payload buffer t = record {
  answer = refl;
  left = refl;
  number = write_number (named f) (length payload) (length buffer);
  kept = write_kept (named f) payload buffer;
  past = write_past (named f) payload buffer;
  back = written_back f payload buffer t;
}

pub wrote : (f : FlatOperation) (payload buffer : List ℕ) (a : WriteAnswer) (after : List ℕ) → TypedFlat f
    → a ≡ write_answer (named f) (length payload) (length buffer) → after ≡ buffer_after_write (named f) payload buffer
    → Wrote f payload buffer a after
wrote f payload buffer a after t e g =
    subst (λ (x : WriteAnswer). Wrote f payload buffer x after) (sym e)
    (subst (Wrote f payload buffer (write_answer (named f) (length payload) (length buffer))) (sym g) (wrote_by f payload buffer t))

pub items-whole : ItemsWhole
items-whole s = (reads_through s).whole
