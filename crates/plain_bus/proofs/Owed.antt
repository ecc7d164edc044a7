-- What the bus adds to a queue: whole operations, with the IDs that they close.
-- Assumes nothing.
use mathlib.Core.Path.{◌≡◌, refl, sym, ap, ◌∙◌}
use Prim.Native.Nat.{ℕ, ◌≤◌}
use native.Mathlib.Omega.{arith}
use mathlib.Core.Bool.{Bool, true, false, cond, ◌&&◌}
use mathlib.Core.List.{List, [], ◌∷◌, ◌++◌}
use lib.Dec.{leb, eqb}
use borrow.Author.Tests.{leb-true, le-leb}
use Rattle.operation.specs.Format.{encode}
use Rattle.operation.specs.Rules.{all_after, one_of, is_bit, max_id, max_standard_id, max_extended_id, error_codes, rules, legal}
use Rattle.operation.specs.declared.Operation.{Operation}
use Rattle.operation.proofs.Tests.{passed}
use Rattle.operation.specs.declared.Operation.TheVariants.{FormatError, CanTransmit, FdTransmit, XlTransmit, Confirm, ArbitrationLost, BusError, Configuration, Status, Wakeup}
use Rattle.decoder.specs.Stream.{items_of}
use Rattle.decoder.proofs.Found.{found}
use Rattle.operation.specs.Kinds.{is_transmit, id_of}
use Rattle.plain_bus.specs.Closing.{closes}
use Rattle.plain_bus.specs.Held.{Frame, Node, is_off}
use Rattle.plain_bus.specs.Order.{Entry}
use Rattle.plain_bus.specs.Round.{Injection, no_error, injected, primary_error_flag, secondary_error_flag, winner_id, error_for, news_for, lost_notices, told, owed}
use Rattle.plain_bus.proofs.ValidBus.{ReadsWhole, ValidFrame, ValidFrames, Whole}
use Rattle.plain_bus.specs.Session.{closing_ids, pending_ids}
use Rattle.plain_bus.proofs.Codec.{reads-confirm, reads-lost, reads-bus_error}
use Rattle.plain_bus.proofs.Whole.{items-append, whole_append, whole-nil, items-nil, items_one, whole_one, closing-append}
use Rattle.plain_bus.proofs.Changes.{LegalInjection}

-- ---- IDs of operations that meet their rules

id-low : (ide id : ℕ) → leb id (max_id ide) ≡ true → id ≤ max_extended_id
id-low ide id e = go (eqb ide 0) e
  where
    go : (t : Bool) → leb id (cond t max_standard_id max_extended_id) ≡ true → id ≤ max_extended_id
    go true e = omega (arith, leb-true id max_standard_id e)
    go false e = leb-true id max_extended_id e

pub legal-id : (op : Operation) → legal op ≡ true → id_of op ≤ max_extended_id
unfolding legal rules
legal-id (FormatError n) e = omega arith
legal-id (CanTransmit id ide rtr dl) e = id-low ide id (passed _ e 1)
legal-id (FdTransmit id ide brs esi dl) e = id-low ide id (passed _ e 1)
legal-id (XlTransmit id ide sec sdt vcid af dl) e = id-low ide id (passed _ e 1)
legal-id (Confirm id) e = leb-true id max_extended_id (passed _ e 0)
legal-id (ArbitrationLost id) e = leb-true id max_extended_id (passed _ e 0)
legal-id (BusError id code flag sender) e = leb-true id max_extended_id (passed _ e 0)
legal-id (Configuration kind value) e = omega arith
legal-id (Status status) e = omega arith
legal-id Wakeup e = omega arith

pub read-id : {op : Operation} (bytes : List ℕ) → ReadsWhole op bytes → id_of op ≤ max_extended_id
read-id {op} bytes r = legal-id op (found r).lawful

-- ---- bytes that are whole operations, and the IDs that these close

pub record Says (bytes ids : List ℕ) : Type 0 where
  pub whole : Whole bytes
  pub closing : closing_ids (items_of bytes) ≡ ids

pub says_nil : Says [] []
unfolding closing_ids
says_nil = record { whole = whole-nil; closing = ap closing_ids items-nil }

pub says_append : {a b x y : List ℕ} → Says a x → Says b y → Says (a ++ b) (x ++ y)
says_append {a} {b} s t = record {
  whole = whole_append a b s.whole t.whole;
  closing =
      ap closing_ids (items-append a b s.whole) ∙ closing-append (items_of a) (items_of b) ∙ cc (s.closing, t.closing);
}

pub says_one : {op : Operation} {bytes : List ℕ} → ReadsWhole op bytes → Says bytes (cond (closes op) (id_of op ∷ []) [])
unfolding closing_ids
says_one {op} {bytes} r = record { whole = whole_one bytes r; closing = ap closing_ids (items_one bytes r) }

-- ---- what a round adds

-- a Transmit closes nothing
transmit-quiet : (op : Operation) → is_transmit op ≡ true → closes op ≡ false
transmit-quiet (FormatError n) e = refl
transmit-quiet (CanTransmit id ide rtr dl) e = refl
transmit-quiet (FdTransmit id ide brs esi dl) e = refl
transmit-quiet (XlTransmit id ide sec sdt vcid af dl) e = refl
transmit-quiet (Confirm id) e = sym e
transmit-quiet (ArbitrationLost id) e = sym e
transmit-quiet (BusError id code flag sender) e = let z : ◌≡◌ {A = ℕ} 0 1 = cc in absurd (omega arith)
transmit-quiet (Configuration kind value) e = refl
transmit-quiet (Status status) e = refl
transmit-quiet Wakeup e = refl

error_legal : (id code : ℕ) (t u : Bool) → id ≤ max_extended_id → one_of code error_codes ≡ true
    → legal (BusError id code (cond t primary_error_flag secondary_error_flag) (cond u 1 0)) ≡ true
unfolding legal rules all_after one_of
error_legal id code t u h e = rw (le-leb id max_extended_id h, e) (go t u)
  where
    go : (t u : Bool) → (one_of (cond t 1 2) (1 ∷ 2 ∷ []) && is_bit (cond u 1 0)) ≡ true
    go true true = refl
    go true false = refl
    go false true = refl
    go false false = refl

says_news : (e : Injection) (w : Entry) (j : ℕ) (d : Node) → LegalInjection e → ValidFrame w.frame
    → (eqb j w.owner ≡ true → is_off d ≡ false)
    → Says (news_for e w j d) (cond (eqb j w.owner) (winner_id w ∷ []) [])
unfolding news_for
says_news no_error w j d l v on = go (eqb j w.owner) (is_off d)
  where
    go : (own off : Bool)
        → Says (cond own (encode (Confirm (winner_id w)) []) (cond off [] w.frame.bytes)) (cond own (winner_id w ∷ []) [])
    go true off = says_one (reads-confirm (winner_id w) (read-id w.frame.bytes v.reads))
    go false true = says_nil
    go false false = rw (transmit-quiet w.frame.op v.transmit) at (says_one v.reads)
says_news (injected code detector) w j d l v on = go (eqb j w.owner) (is_off d) (eqb j detector) on
  where
    error : (own first : Bool)
        → Says (encode (error_for w code first own) []) (cond (closes (error_for w code first own)) (winner_id w ∷ []) [])
    error own first =
        let low = read-id w.frame.bytes v.reads in
        says_one (reads-bus_error (winner_id w) code _ _ (error_legal (winner_id w) code first own low l))

    go : (own off first : Bool) → (own ≡ true → off ≡ false)
        → Says (cond off [] (encode (error_for w code first own) [])) (cond own (winner_id w ∷ []) [])
    go true true first on = let z : ◌≡◌ {A = ℕ} 0 1 = cc (on refl) in absurd (omega arith)
    go false true first on = says_nil
    go true false first on = error true first
    go false false first on = error false first

says_lost : (low now : ℕ) (fs : List Frame) → ValidFrames low now fs → Says (lost_notices fs) (pending_ids fs)
unfolding lost_notices pending_ids
says_lost low now [] v = says_nil
says_lost low now (f ∷ fs) v =
    let one = says_one (reads-lost (id_of f.op) (read-id f.bytes v.0.reads)) in
    says_append one (says_lost f.accepted now fs v.3)

-- the sender's part closes the winner, and Arbitration Lost each frame that is told
pub says_owed : (e : Injection) (w : Entry) (j : ℕ) (d : Node) (low now : ℕ) → LegalInjection e → ValidFrame w.frame
    → (eqb j w.owner ≡ true → is_off d ≡ false)
    → ValidFrames low now (told w j d)
    → Says (owed e w j d) (cond (eqb j w.owner) (winner_id w ∷ []) [] ++ pending_ids (told w j d))
unfolding owed
says_owed e w j d low now l v on f = says_append (says_news e w j d l v on) (says_lost low now (told w j d) f)
