-- What a node is told: by the cases of the news, and notice by notice; that all of it can be written.
-- Assumes nothing.
use mathlib.Core.Path.{◌≡◌, refl, ap}
use mathlib.Core.Bool.{Bool, true, false, cond}
use mathlib.Core.List.{List, [], ◌++◌}
use Rattle.std.specs.Prelude.{Option, None, Some}
use Prim.Native.Nat.{ℕ, suc, ◌-◌, ◌≤◌, ◌<◌}
use native.Mathlib.Omega.{arith}
use lib.Dec.{eqb}
use lib.ListN.{get_or}
use borrow.Author.Tests.{eq-eqb, ne_eqb, le-leb}
use Rattle.operation.specs.Format.{encode}
use Rattle.operation.specs.Kinds.{id_of}
use Rattle.operation.specs.Rules.{all_after, rules, legal, one_of, error_codes, error_flags}
use Rattle.operation.specs.declared.Operation.{Operation}
use Rattle.operation.specs.declared.Operation.TheVariants.{Confirm, ArbitrationLost, BusError}
use Rattle.operation.proofs.Tests.{false_is_true, one_small}
use Rattle.arbitration.specs.declared.Injection.{Injection}
use Rattle.arbitration.specs.Injections.{has_legal_code}
use Rattle.arbitration.specs.Owed.{own, flag_at, news_to, notice_of, notices_but}

-- ---- the operations meet their rules

pub confirm-lawful : (id : ℕ) → id ≤ 536_870_911 → legal (Confirm id) ≡ true
unfolding legal rules all_after
confirm-lawful id h = rw (le-leb id 536_870_911 h)

pub lost-lawful : (id : ℕ) → id ≤ 536_870_911 → legal (ArbitrationLost id) ≡ true
unfolding legal rules all_after
lost-lawful id h = rw (le-leb id 536_870_911 h)

flag-legal : (t : Bool) → one_of (cond t 1 2) error_flags ≡ true
unfolding one_of
flag-legal true = refl
flag-legal false = refl

own_bit : (t : Bool) → own t ≤ 1
own_bit true = omega arith
own_bit false = omega arith

pub error_lawful : (id code : ℕ) (detects sends : Bool) → id ≤ 536_870_911 → one_of code error_codes ≡ true
    → legal (BusError id code (cond detects 1 2) (own sends)) ≡ true
unfolding legal rules all_after
error_lawful id code detects sends h c =
    rw (le-leb id 536_870_911 h, c, flag-legal detects, le-leb (own sends) 1 (own_bit sends))

-- a code of the table is small
pub code_small : (code : ℕ) → one_of code error_codes ≡ true → code ≤ 6
unfolding one_of
code_small code e =
    one_small code 1 _ e (λ q. omega arith)
    (λ e. one_small code 2 _ e (λ q. omega arith)
    (λ e. one_small code 3 _ e (λ q. omega arith)
    (λ e. one_small code 4 _ e (λ q. omega arith)
    (λ e. one_small code 5 _ e (λ q. omega arith) (λ e. one_small code 6 _ e (λ q. omega arith) (λ e. false_is_true e))))))

-- the code of an injection that has a legal one
pub legal_code : {e : Option Injection} {i : Injection} → e ≡ Some i → has_legal_code e ≡ true → one_of i.code error_codes ≡ true
legal_code q l = rw q at l

-- ---- the news

module _ (j owner : ℕ) (off : Bool) (op : Operation) (bytes : List ℕ) where
  pub news_own : {e : Option Injection} → e ≡ None → j ≡ owner → news_to e j owner off op bytes ≡ encode (Confirm (id_of op)) []
  unfolding news_to
  news_own q h = rw (q, eq-eqb j owner h)

  pub news_none : {e : Option Injection} → e ≡ None → (j ≡ owner → ⊥) → off ≡ true → news_to e j owner off op bytes ≡ []
  unfolding news_to
  news_none q h o = rw (q, ne_eqb j owner h, o)

  pub news_other : {e : Option Injection} → e ≡ None → (j ≡ owner → ⊥) → off ≡ false → news_to e j owner off op bytes ≡ encode op bytes
  unfolding news_to
  news_other q h o = rw (q, ne_eqb j owner h, o)

  pub news_silent : {e : Option Injection} {i : Injection} → e ≡ Some i → off ≡ true → news_to e j owner off op bytes ≡ []
  unfolding news_to
  news_silent q o = rw (q, o)

  pub news_error : {e : Option Injection} {i : Injection} → e ≡ Some i → off ≡ false
      → news_to e j owner off op bytes ≡ encode (BusError (id_of op) i.code (flag_at j i.detector) (own (eqb j owner))) []
  unfolding news_to
  news_error q o = rw (q, o)

-- ---- the notices

module _ (ids : List ℕ) (winner p end : ℕ) where
  pub notices_next : p < end
      → notices_but ids winner p (end - p) ≡ notice_of (eqb p winner) (get_or ids p 0) ++ notices_but ids winner (suc p) (end - suc p)
  unfolding notices_but
  notices_next h =
      let k : end - p ≡ suc (end - suc p) = omega arith in
      ap (notices_but ids winner p) k

  pub notices_end : end ≤ p → notices_but ids winner p (end - p) ≡ []
  unfolding notices_but
  notices_end h =
      let k : end - p ≡ 0 = omega arith in
      ap (notices_but ids winner p) k
