-- A number stands for a value exactly if it is in the table, and the value then has that number.
-- Assumes nothing.
use mathlib.Core.Path.{◌≡◌, refl}
use mathlib.Core.Bool.{Bool, true, false, cond, ◌&&◌, ◌||◌}
use mathlib.Core.List.{List, [], ◌∷◌, map}
use Prim.Native.Nat.{ℕ}
use native.Mathlib.Omega.{arith}
use Rattle.std.proofs.lemmas.Bool.Decides.{nat_tests}
use lib.Dec.{leb, eqb}
use borrow.Author.Tests.{eqb-true}
use Rattle.std.specs.Prelude.{Result, Ok}
use Rattle.std.specs.Result.{is_ok}
use Rattle.operation.specs.declared.Operation.TheVariants.{Configuration, Status}
use Rattle.operation.specs.Rules.{all_after, one_of, error_codes, error_flags, behaviours, setting_rule, rules, legal}
use Rattle.operation.specs.Tables.{look_up, configuration_kind_from, error_code_from, error_flag_from, status_from, behaviour_from, error_code_number, error_code_table, error_flag_number, error_flag_table, status_number, status_table, behaviour_number, behaviour_table}

is_ok-cond : {V E : Type 0} (b : Bool) (v : V) (r : Result V E) → is_ok (cond b (Ok v) r) ≡ (b || is_ok r)
is_ok-cond true v r = refl
is_ok-cond false v r = refl

look_up-one_of : {V : Type 0} (number : V → ℕ) (vs : List V) (x : ℕ) → is_ok (look_up number vs x) ≡ one_of x (map number vs)
unfolding one_of
look_up-one_of number [] x = refl
look_up-one_of number (v ∷ vs) x = rw (is_ok-cond (eqb x (number v)) v (look_up number vs x), look_up-one_of number vs x)

pub error_code_is_ok : (x : ℕ) → is_ok (error_code_from x) ≡ one_of x error_codes
error_code_is_ok = look_up-one_of error_code_number error_code_table

pub error_flag_is_ok : (x : ℕ) → is_ok (error_flag_from x) ≡ one_of x error_flags
error_flag_is_ok = look_up-one_of error_flag_number error_flag_table

pub status_legal : (x : ℕ) → is_ok (status_from x) ≡ legal (Status x)
unfolding all_after rules legal
status_legal = look_up-one_of status_number status_table

pub behaviour_is_ok : (x : ℕ) → is_ok (behaviour_from x) ≡ one_of x behaviours
behaviour_is_ok = look_up-one_of behaviour_number behaviour_table

pub configuration_kind_is_ok : (kind : ℕ) → is_ok (configuration_kind_from kind) ≡ (leb 1 kind && leb kind 4)
configuration_kind_is_ok kind = grind (arith, nat_tests)

pub configuration_legal : (kind value : ℕ) → legal (Configuration kind value) ≡ (is_ok (configuration_kind_from kind) && setting_rule kind value)
unfolding all_after rules legal
configuration_legal kind value = grind (arith, nat_tests)

-- the value that a number stands for has that number
pub look_up_number : {V : Type 0} (number : V → ℕ) (vs : List V) (x : ℕ) {v : V} → look_up number vs x ≡ Ok v → number v ≡ x
look_up_number number [] x e = cc
look_up_number number (w ∷ vs) x {v} e = go (eqb x (number w)) refl e (look_up_number number vs x)
  where
    go :
        (b : Bool) → eqb x (number w) ≡ b → cond b (Ok w) (look_up number vs x) ≡ Ok v →
        (look_up number vs x ≡ Ok v → number v ≡ x) → number v ≡ x
    go true q e h = let p = eqb-true x (number w) q in cc
    go false q e h = h e
