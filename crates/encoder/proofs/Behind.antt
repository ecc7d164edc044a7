-- An operation written to the front of what stands behind a position of a buffer lies over the buffer from there on.
-- Assumes nothing.
use mathlib.Core.Path.{◌≡◌, sym, ap, ◌∙◌}
use mathlib.Core.Bool.{true}
use mathlib.Core.List.{List, [], append_assoc, append-nil}
use Prim.Native.Nat.{ℕ, ◌+◌, ◌-◌, ◌≤◌}
use native.Mathlib.Omega.{arith}
use native.Mathlib.Nat.{zero-add}
use borrow.Rule.Slice.PartMut.{put_mid}
use lib.ListN.{length, take, drop, length-drop}
use lib.Seq.{take_all, drop-drop, drop-length}
use Rattle.operation.specs.Format.{data_length, length_of, encode}
use Rattle.operation.specs.Rules.{legal}
use Rattle.operation.specs.declared.Operation.{Operation}
use Rattle.buffers.specs.Parts.{over}
use Rattle.encoder.specs.Writing.{written_of}
use Rattle.encoder.proofs.Answers.{accepts}

pub laid_behind : (op : Operation) (payload l r : List ℕ) (at : ℕ) → legal op ≡ true → length payload ≡ data_length op
    → length payload ≤ 65_535 → at + length_of op ≤ length l → r ≡ written_of op payload (take (length l - at) (drop at l))
    → put_mid at (length l - at) l r ≡ over l at (encode op payload)
unfolding written_of over
laid_behind op payload l r at lawful whole short room e =
    let rest : take (length l - at) (drop at l) ≡ drop at l = take_all (length l - at) (drop at l) (rw length-drop (omega arith)) in
    let all : at + (length l - at) ≡ length l = omega arith in
    let fits : length_of op ≤ length (drop at l) = rw length-drop (omega arith) in
    let a = accepts op (length payload) (length (drop at l)) lawful whole short fits in
    let none : drop (length l - at) (drop at l) ≡ [] =
    drop-drop (length l - at) at l ∙ ap (λ (i : ℕ). drop i l) all ∙ drop-length l in
    rw (e, rest, a, none, append-nil, drop-drop, zero-add)
    (sym (append_assoc (take at l) (encode op payload) (drop (at + length (encode op payload)) l)))
