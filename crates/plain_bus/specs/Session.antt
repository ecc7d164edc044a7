-- Believed. Lists of calls of the plain bus, and what demand 3 counts (00, item 4; 01, "The book").
-- Assumes nothing.
use Rattle.std.specs.Prelude.{ℕ, ◌+◌, List, [], ◌∷◌, Bool, true, cond, ◌&&◌, eqb}
use Rattle.decoder.specs.Stream.{Item, operation, fault}
use Rattle.operation.specs.Kinds.{id_of}
use Rattle.plain_bus.specs.Closing.{closes}
use Rattle.plain_bus.specs.Held.{Frame, Bus}
use Rattle.plain_bus.specs.Round.{Injection}
use Rattle.plain_bus.specs.Calls.{Answer, Outcome, submit, run_round, collect}

-- a node submits a buffer; a round with its injection; a node collects into a buffer of some length
pub data Call : Type 0 where
  submission : ℕ → List ℕ → Call
  round : Injection → Call
  collection : ℕ → ℕ → Call

unfoldable pub call : Bus → Call → Outcome
call b (submission k buffer) = submit b k buffer
call b (round e) = run_round b e
call b (collection k room) = collect b k room

unfoldable pub calls : List Call → Bus → Bus
calls [] b = b
calls (c ∷ cs) b = calls cs (call b c).bus

unfoldable pub answers : List Call → Bus → List Answer
answers [] b = []
answers (c ∷ cs) b = (call b c).answer ∷ answers cs (call b c).bus

-- ---- what demand 3 counts

unfoldable pub count : (ℕ → Bool) → List ℕ → ℕ
count test [] = 0
count test (x ∷ xs) = cond (test x) 1 0 + count test xs

abbrev pub times : ℕ → List ℕ → ℕ
times id ids = count (λ x. eqb x id) ids

unfoldable pub pending_ids : List Frame → List ℕ
pending_ids [] = []
pending_ids (f ∷ fs) = id_of f.op ∷ pending_ids fs

-- the IDs of the closing operations among some items
unfoldable pub closing_ids : List Item → List ℕ
closing_ids [] = []
closing_ids (operation op bytes ∷ is) = cond (closes op) (id_of op ∷ closing_ids is) (closing_ids is)
closing_ids (fault number bytes ∷ is) = closing_ids is

unfoldable pub all_zero : List ℕ → Bool
all_zero [] = true
all_zero (n ∷ ns) = eqb n 0 && all_zero ns
