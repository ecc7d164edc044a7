-- What is pending after a call of the plain bus was pending before it, as it is, or is accepted at the present round number.
-- Assumes nothing.
use mathlib.Core.Path.{◌≡◌, refl, subst}
use Prim.Native.Nat.{ℕ, zero, suc, ◌<◌}
use mathlib.Core.Logic.{◌⊎◌, inl, inr}
use mathlib.Core.Bool.{Bool, true, false, cond, ◌&&◌}
use mathlib.Core.List.{List, [], ◌∷◌, ◌++◌}
use lib.Dec.{eqb}
use lib.ListN.{length}
use Rattle.decoder.specs.Stream.{items_of}
use Rattle.plain_bus.specs.Held.{Frame, Node, Bus, discards, node_at}
use Rattle.plain_bus.specs.Order.{Entry}
use Rattle.plain_bus.specs.Round.{Injection, without, losers, stay}
use Rattle.plain_bus.specs.Calls.{accepted, Outcome}
use Rattle.plain_bus.specs.Session as session
use Rattle.plain_bus.proofs.Outcomes.{Came, turned_down, idled, took, carried_out, came}
use Rattle.plain_bus.proofs.Rounds.{round-pending}
use Rattle.plain_bus.proofs.Waiting.{AcceptedAt, any_turns_off, submit-pending, collect-pending}
use Rattle.claims.specs.Demands.{Among}

-- pending before, or accepted at the round number now
abbrev Known : ℕ → Frame → List Frame → Type 0
Known now f before = Among f before ⊎ (f.accepted ≡ now)

among-fresh : (now : ℕ) (f : Frame) (fs : List Frame) → AcceptedAt now fs → Among f fs → f.accepted ≡ now
among-fresh now f [] a i = elim i [ ]
among-fresh now f (g ∷ fs) a (inl e) = rw e a.0
among-fresh now f (g ∷ fs) a (inr i) = among-fresh now f fs a.1 i

among-joined : (now : ℕ) (f : Frame) (fs added : List Frame) → AcceptedAt now added → Among f (fs ++ added) → Known now f fs
among-joined now f [] added a i = inr (among-fresh now f added a i)
among-joined now f (g ∷ fs) added a (inl e) = inl (inl e)
among-joined now f (g ∷ fs) added a (inr i) = go (among-joined now f fs added a i)
  where
    go : Known now f fs → Known now f (g ∷ fs)
    go (inl k) = inl (inr k)
    go (inr k) = inr k

among-without : (f : Frame) (i : ℕ) (fs : List Frame) → Among f (without i fs) → Among f fs
unfolding without
among-without f zero [] a = elim a [ ]
among-without f zero (g ∷ fs) a = inr a
among-without f (suc i) [] a = elim a [ ]
among-without f (suc i) (g ∷ fs) (inl e) = inl e
among-without f (suc i) (g ∷ fs) (inr a) = inr (among-without f i fs a)

-- ---- a round

among-stay : (f : Frame) (w : Entry) (j : ℕ) (d : Node) → Among f (stay w j d) → Among f d.pending
unfolding stay losers
among-stay f w j d = go (discards d) (eqb j w.owner)
  where
    go : (t u : Bool) → Among f (cond t [] (cond u (without w.position d.pending) d.pending)) → Among f d.pending
    go true u a = elim a [ ]
    go false true a = among-without f w.position d.pending a
    go false false a = a

round_known : {b : Bus} {e : Injection} {o : Outcome} → Came b (session.round e) o → (j : ℕ) → j < length b.nodes → (f : Frame)
    → Among f (node_at o.bus j).pending → Known b.round f (node_at b j).pending
round_known (turned_down r) j h f a = inl a
round_known (idled e q) j h f a = inl a
round_known {b} (carried_out e w l q room last) j h f a =
    inl (among-stay f w j (node_at b j) (subst (Among f) (round-pending b e w j h) a))

-- ---- a submitted buffer

-- it is refused and changes nothing, or it is accepted
submit_either : {b : Bus} {k : ℕ} {buffer : List ℕ} {o : Outcome} → Came b (session.submission k buffer) o
    → (o.bus ≡ b) ⊎ (o.answer ≡ accepted)
submit_either (turned_down r) = inl refl
submit_either (took k buffer b' h e) = inr refl

among-cleared : (f : Frame) (t : Bool) (fs : List Frame) → Among f (cond t [] fs) → Among f fs
among-cleared f false fs a = a
among-cleared f true fs a = elim a [ ]

submit_known : (b : Bus) (k : ℕ) (buffer : List ℕ) (j : ℕ) → j < length b.nodes → (f : Frame)
    → Among f (node_at (session.call b (session.submission k buffer)).bus j).pending → Known b.round f (node_at b j).pending
submit_known b k buffer j h f a = go (submit_either (came b (session.submission k buffer)))
  where
    cleared : Bool
    cleared = any_turns_off (items_of buffer) && eqb j k

    known : Known b.round f (cond cleared [] (node_at b j).pending) → Known b.round f (node_at b j).pending
    known (inl i) = inl (among-cleared f cleared (node_at b j).pending i)
    known (inr q) = inr q

    go : ((session.call b (session.submission k buffer)).bus ≡ b) ⊎ ((session.call b (session.submission k buffer)).answer ≡ accepted)
        → Known b.round f (node_at b j).pending
    go (inl e) = inl (subst (λ (c : Bus). Among f (node_at c j).pending) e a)
    go (inr e) =
        let s = submit-pending b k buffer e j h in
        known (among-joined b.round f (cond cleared [] (node_at b j).pending) s.added s.fresh (subst (Among f) s.split a))

-- ---- any call

pub call_known : (b : Bus) (c : session.Call) (j : ℕ) → j < length b.nodes → (f : Frame)
    → Among f (node_at (session.call b c).bus j).pending → Among f (node_at b j).pending ⊎ (f.accepted ≡ b.round)
call_known b (session.submission k buffer) j h f a = submit_known b k buffer j h f a
call_known b (session.round e) j h f a = round_known (came b (session.round e)) j h f a
call_known b (session.collection k room) j h f a = inl (subst (Among f) (collect-pending b k room j h) a)
