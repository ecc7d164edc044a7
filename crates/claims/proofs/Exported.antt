-- The demands hold of the public calls: each follows from the function's own contract, whose theorem gives it, and from what the
-- types of its parameters say.
-- Assumes nothing.
use mathlib.Core.Path.{refl}
use mathlib.Core.List.{List, [], ◌∷◌}
use seplogic.Ra.Ura.{Ura}
use base.Logic.{SProp, ent, sep, emp, id⊢, via, fst∗, emp∗, mono_r}
use prog.Model.{Model}
use prog.Wired.{Code, Wired}
use contract.Lifetimes.{Lfts, Shares, toks}
use mir.Syntax.{Callee, named}
use denote.RattleType.{RattleType}
use denote.Signature.{types_at}
use denote.Builtin.{u8, u32, usize}
use denote.Slice.{MutSlice, ShrSlice}
use Rattle.operation.specs.Number.{Bytes}
use Rattle.bus_state.specs.contracts.State as St
use Rattle.slots.specs.contracts.Slot as T
use types.Logic.{Logic, sem}
use contract.Monad.{fact, fact_mono}
use contract.Running.{Running}
use denote.Ask.Run.{routine_mono}
use denote.Triple.Clauses.{Ended, AtExit, at_exit, lasts, closing}
use denote.Triple.Entry.{Args, Vals, Res, on_entry}
use denote.Triple.Table.{run_Enters}
use denote.Triple.Spec.{Meets}
use denote.Triple.Walked.{needs}
use denote.Triple.Weaken.{weaken, weaken_under}
use Rattle.bus.specs.Left.{left}
use Rattle.kettlefrost.specs.contracts.kf_start as kf-start
use Rattle.kettlefrost.proofs.kf_start.Symbol as start-code
use Rattle.kettlefrost.proofs.kf_start.Met as start-thm
use Rattle.kettlefrost.specs.contracts.kf_submit as kf-submit
use Rattle.kettlefrost.proofs.kf_submit.Symbol as submit-code
use Rattle.kettlefrost.proofs.kf_submit.Met as submit-thm
use Rattle.kettlefrost.specs.contracts.kf_round as kf-round
use Rattle.kettlefrost.proofs.kf_round.Symbol as round-code
use Rattle.kettlefrost.proofs.kf_round.Met as round-thm
use Rattle.kettlefrost.specs.contracts.kf_collect as kf-collect
use Rattle.kettlefrost.proofs.kf_collect.Symbol as collect-code
use Rattle.kettlefrost.proofs.kf_collect.Met as collect-thm
use Rattle.kettlefrost.specs.contracts.kf_read as kf-read
use Rattle.kettlefrost.proofs.kf_read.Symbol as read-code
use Rattle.kettlefrost.proofs.kf_read.Met as read-thm
use Rattle.kettlefrost.specs.contracts.kf_data as kf-data
use Rattle.kettlefrost.proofs.kf_data.Symbol as data-code
use Rattle.kettlefrost.proofs.kf_data.Met as data-thm
use Rattle.kettlefrost.specs.contracts.kf_write as kf-write
use Rattle.kettlefrost.proofs.kf_write.Symbol as write-code
use Rattle.kettlefrost.proofs.kf_write.Met as write_thm
use Rattle.kettlefrost.specs.contracts.register.kf_register_new as kf-register-new
use Rattle.kettlefrost.proofs.register.kf_register_new.Symbol as register-new-code
use Rattle.kettlefrost.proofs.register.kf_register_new.Met as register-new-thm
use Rattle.kettlefrost.specs.contracts.register.kf_register_enter as kf-register-enter
use Rattle.kettlefrost.proofs.register.kf_register_enter.Symbol as register-enter-code
use Rattle.kettlefrost.proofs.register.kf_register_enter.Met as register-enter-thm
use Rattle.kettlefrost.specs.contracts.register.kf_register_read as kf-register-read
use Rattle.kettlefrost.proofs.register.kf_register_read.Symbol as register-read-code
use Rattle.kettlefrost.proofs.register.kf_register_read.Met as register-read-thm
use Rattle.kettlefrost.specs.contracts.layout.kf_layout as kf-layout
use Rattle.kettlefrost.proofs.layout.kf_layout.Symbol as layout_code
use Rattle.kettlefrost.proofs.layout.kf_layout.Met as layout-thm
use Rattle.claims.specs.Exported.{Statement, Holds, Start, Submit, Round, Collect, ReadAt, DataOf, WriteTo, RegisterNew, RegisterEnter, RegisterRead, Layout, Exported}
use Rattle.claims.proofs.Model.{left_by, given_by}
use Rattle.claims.proofs.Demanded.{demanded, given_is, past-given, started, enters, closes}
use Rattle.claims.proofs.RoundTrip.{reads, wrote}
use Rattle.claims.proofs.Named.{TypedFlat}
use Rattle.claims.proofs.Entered.{OfTypes, slots_mut, slots_shr, sixth_bytes, first_is, first-bytes}
use Rattle.claims.proofs.Machine.{flat-typed}
use Rattle.kettlefrost.specs.contracts.FlatOperation as F

-- ---- of the public calls

-- the types behind the first two
abbrev others : List RattleType → List RattleType
others [] = []
others (R ∷ []) = []
others (R ∷ R' ∷ Rs) = Rs

module _ (M : Type 1) (T : Ended) (code : Code) (name : Callee) where
  -- what follows from a statement that holds
  follows : (F P : Statement T) → Holds M T code name F
      → ((κs : Lfts T.signature.lifetimes) (a : Args T.signature κs) (r : Res T.signature κs) (e : AtExit T κs)
      → F κs a r e → P κs a r e)
      → Holds M T code name P
  follows F P met h 𝓤 𝓛 𝓜 𝓡 w =
      weaken 𝓛 T (λ κs a. record {
        ghost = Unit {0};
        requires = λ g. emp 𝓤;
        ensures = λ g r e. fact 𝓤
            (F κs a r e);
      })
      (λ κs a g r e. fact 𝓤 (P κs a r e)) (λ κs a g r ws. fact_mono 𝓤 (F κs a r (at_exit T κs a ws)) (P κs a r (at_exit T κs a ws))
      (h κs a r (at_exit T κs a ws)))
      (𝓡.run (𝓡.env name)) (routine_mono 𝓤 𝓛.H 𝓜 𝓡 (𝓡.env name)) (met 𝓤 𝓛 𝓜 𝓡 w)

  -- the same of a contract with two clauses
  abbrev HoldBoth : Statement T → Statement T → Type 2
  HoldBoth F G =
      (𝓤 : Ura M) (𝓛 : Logic 𝓤) (𝓜 : Model 𝓤 𝓛.H) (𝓡 : Running 𝓤 𝓛.H 𝓜)
      → Wired 𝓡.env code
      → Meets 𝓛 T.signature (𝓡.run (𝓡.env name))
      (closing 𝓛 T (λ κs a. record {
        ghost = Unit {0};
        requires = λ g. emp 𝓤;
        ensures = λ g r e. sep 𝓤 (fact 𝓤 (F κs a r e)) (fact 𝓤 (G κs a r e));
      }))

  follows_both : (F G P : Statement T) → HoldBoth F G
      → ((κs : Lfts T.signature.lifetimes) (a : Args T.signature κs) (r : Res T.signature κs) (e : AtExit T κs)
      → F κs a r e → G κs a r e → P κs a r e)
      → Holds M T code name P
  follows_both F G P met h 𝓤 𝓛 𝓜 𝓡 w =
      weaken 𝓛 T
      (λ κs a. record { ghost = Unit {0}; requires = λ g. emp 𝓤; ensures = λ g r e. sep 𝓤 (fact 𝓤 (F κs a r e)) (fact 𝓤 (G κs a r e)) })
      (λ κs a g r e. fact 𝓤 (P κs a r e)) (λ κs a g r ws. needs 𝓤 _ _ (λ y. fact_mono 𝓤 _ _ (λ x. h κs a r (at_exit T κs a ws) x y)))
      (𝓡.run (𝓡.env name)) (routine_mono 𝓤 𝓛.H 𝓜 𝓡 (𝓡.env name)) (met 𝓤 𝓛 𝓜 𝓡 w)

module _ (M : Type 1) (T : Ended) (code : Code) (name : Callee) (Φ : (κs : Lfts T.signature.lifetimes) → Args T.signature κs → Type 0)
    (learns : (𝓤 : Ura M) (𝓛 : Logic 𝓤) (κs : Lfts T.signature.lifetimes) (qs : Shares
    T.signature.lifetimes) (a : Args T.signature κs) (vss : Vals T.signature κs)
    → ent 𝓤 (on_entry 𝓛 T.signature κs qs a vss) (𝓛.H.⇛ (sep 𝓤 (on_entry 𝓛 T.signature κs qs a vss) (fact 𝓤 (Φ κs a))))) where
  -- a fact that the parameters show on entry is in hand
  entered : (P : Statement T) → Holds M T code name (λ κs a r e. Φ κs a → P κs a r e) → Holds M T code name P
  entered P met 𝓤 𝓛 𝓜 𝓡 w y =
      let A = 𝓛.A in
      let E : SProp 𝓤 = on_entry 𝓛 T.signature y.0.0 y.0.1 y.0.3 y.0.4 in
      let φ : Type 0 = Φ y.0.0 y.0.3 in
      let under : Meets 𝓛 T.signature (𝓡.run (𝓡.env name)) (closing 𝓛 T (λ κs a. record {
        ghost = Unit {0};
        requires = λ g. fact 𝓤
            (Φ κs a);
        ensures = λ g r e. fact 𝓤 (P κs a r e);
      })) =
      weaken_under 𝓛 T
      (λ κs a. record { ghost = Unit {0}; requires = λ g. emp 𝓤; ensures = λ g r e. fact 𝓤 (Φ κs a → P κs a r e) })
      (λ κs a. record { ghost = Unit {0}; requires = λ g. fact 𝓤 (Φ κs a); ensures = λ g r e. fact 𝓤 (P κs a r e) })
      (λ κs a g. g) (λ κs a g. Φ κs a) (λ κs a g. id⊢ 𝓤 (fact 𝓤 (Φ κs a)))
      (λ κs a g h. via 𝓤 (sep 𝓤 (emp 𝓤) (fact 𝓤 (Φ κs a))) (emp∗ 𝓤 (fact 𝓤 (Φ κs a))) (fst∗ 𝓤 (emp 𝓤) (fact 𝓤 (Φ κs a))))
      (λ κs a g h r ws. mono_r 𝓤 (sem 𝓛 (lasts T κs a ws)) (fact_mono 𝓤 _ _ (λ f. f h)))
      (𝓡.run (𝓡.env name)) (routine_mono 𝓤 𝓛.H 𝓜 𝓡 (𝓡.env name)) (met 𝓤 𝓛 𝓜 𝓡 w) in
      via 𝓤 E (fst∗ 𝓤 E (emp 𝓤))
      (via 𝓤 (𝓛.H.⇛ (sep 𝓤 E (fact 𝓤 φ))) (learns 𝓤 𝓛 y.0.0 y.0.1 y.0.3 y.0.4)
      (via 𝓤 (𝓛.H.⇛ (𝓡.run (𝓡.env name) _ _)) (𝓛.laws.⇛_mono _ _ (under (y.0, tt))) (run_Enters 𝓤 𝓛.H 𝓜 𝓡 (𝓡.env name) _ _)))

module _ {M : Type 1} where
  start-holds : Holds M kf-start.ended start-code.code start-code.name Start
  start-holds =
      follows M kf-start.ended start-code.code start-code.name _ Start start-thm.met
      (λ κs a r e f. started _ _ _ _ (left r e.0.now a.1.0.now a.1.1.0.now) f)

  submit-holds : Holds M kf-submit.ended submit-code.code submit-code.name Submit
  unfolding left_by given_by
  submit-holds =
      entered M kf-submit.ended submit-code.code submit-code.name (λ κs a. Bytes a.1.1.1.1.1.0.now)
      (λ 𝓤 𝓛 κs qs a vss.
      sixth_bytes 𝓛 (𝓛.A.lft κs.0 qs.0) (𝓛.A.lft κs.1.0 qs.1.0) (𝓛.A.lft κs.1.1.0 qs.1.1.0) (emp 𝓤)
      κs.1.1.1.0 qs.1.1.1.0 St.the_row (MutSlice (named 0) κs.0 T.the_row) (MutSlice (named 1) κs.1.0 u8)
      (MutSlice (named 2) κs.1.1.0 u8) u32 [] (named 3) a vss)
      Submit
      (entered M kf-submit.ended submit-code.code submit-code.name (λ κs a. OfTypes a.0 a.1.0.now)
      (λ 𝓤 𝓛 κs qs a vss.
      slots_mut 𝓛 (named 0) κs.0 qs.0 (toks 𝓛 3 κs.1 qs.1) (others (types_at (kf-submit.signature).params κs)) a vss)
      (λ κs a r e. Bytes a.1.1.1.1.1.0.now → Submit κs a r e)
      (follows M kf-submit.ended submit-code.code submit-code.name _
      (λ κs a r e. OfTypes a.0 a.1.0.now → Bytes a.1.1.1.1.1.0.now → Submit κs a r e) submit-thm.met
      (λ κs a r e f t u. (u, demanded _ _ _ _ (t _ _) f refl))))

  round-holds : Holds M kf-round.ended round-code.code round-code.name Round
  unfolding left_by given_by
  round-holds =
      entered M kf-round.ended round-code.code round-code.name (λ κs a. OfTypes a.0 a.1.0.now)
      (λ 𝓤 𝓛 κs qs a vss.
      slots_mut 𝓛 (named 0) κs.0 qs.0 (toks 𝓛 2 κs.1 qs.1) (others (types_at (kf-round.signature).params κs)) a vss)
      Round
      (follows M kf-round.ended round-code.code round-code.name _ (λ κs a r e. OfTypes a.0 a.1.0.now → Round κs a r e) round-thm.met
      (λ κs a r e f t. demanded _ _ _ _ (t _ _) f refl))

  collect-holds : Holds M kf-collect.ended collect-code.code collect-code.name Collect
  unfolding left_by given_by
  collect-holds =
      entered M kf-collect.ended collect-code.code collect-code.name (λ κs a. OfTypes a.0 a.1.0.now)
      (λ 𝓤 𝓛 κs qs a vss.
      slots_shr 𝓛 (named 0) κs.0 qs.0 (toks 𝓛 3 κs.1 qs.1) (others (types_at (kf-collect.signature).params κs)) a vss)
      Collect
      (follows_both M kf-collect.ended collect-code.code collect-code.name _ _ (λ κs a r e. OfTypes a.0 a.1.0.now → Collect κs a r e)
      collect-thm.met
      (λ κs a r e f g t.
      let node = a.1.1.1.1.0 in
      let buffer = a.1.1.1.1.1.0.now in
      (demanded _ _ _ _ (t _ _) f (given_is _ node buffer _ _ f g), past-given _ node buffer _ _ f g)))

  read-holds : Holds M kf-read.ended read-code.code read-code.name ReadAt
  read-holds =
      entered M kf-read.ended read-code.code read-code.name (λ κs a. Bytes a.0.now)
      (λ 𝓤 𝓛 κs qs a vss. first-bytes 𝓛 (emp 𝓤) (usize ∷ []) (named 0) κs.0 qs.0 a vss)
      ReadAt
      (follows M kf-read.ended read-code.code read-code.name _ (λ κs a r e. Bytes a.0.now → ReadAt κs a r e) read-thm.met
      (λ κs a r e f u. reads _ _ _ u f))

  data_holds : Holds M kf-data.ended data-code.code data-code.name DataOf
  data_holds = data-thm.met

  write_holds : Holds M kf-write.ended write-code.code write-code.name WriteTo
  write_holds =
      entered M kf-write.ended write-code.code write-code.name (λ κs a. TypedFlat a.0)
      (λ 𝓤 𝓛 κs qs a vss.
      first_is 𝓛 (toks 𝓛 2 κs qs) (ShrSlice (named 0) κs.0 u8 ∷ MutSlice (named 1) κs.1.0 u8 ∷ []) F.the_row a vss
      (TypedFlat a.0) (flat-typed a.0 vss.0))
      WriteTo
      (follows_both M kf-write.ended write-code.code write-code.name _ _ (λ κs a r e. TypedFlat a.0 → WriteTo κs a r e) write_thm.met
      (λ κs a r e f g t. wrote _ _ _ _ _ t f g))

  register_new-holds : Holds M kf-register-new.ended register-new-code.code register-new-code.name RegisterNew
  register_new-holds = register-new-thm.met

  register_enter-holds : Holds M kf-register-enter.ended register-enter-code.code register-enter-code.name RegisterEnter
  register_enter-holds =
      follows M kf-register-enter.ended register-enter-code.code register-enter-code.name _ RegisterEnter register-enter-thm.met
      (λ κs a r e f. enters _ _ _ f)

  register_read-holds : Holds M kf-register-read.ended register-read-code.code register-read-code.name RegisterRead
  register_read-holds =
      follows M kf-register-read.ended register-read-code.code register-read-code.name _ RegisterRead register-read-thm.met
      (λ κs a r e f. closes _ _ _ f)

  layout-holds : Holds M kf-layout.ended layout_code.code layout_code.name Layout
  layout-holds = layout-thm.met

  pub exported : Exported M
  exported = record {
    start = start-holds;
    submit = submit-holds;
    round = round-holds;
    collect = collect-holds;
    read_at = read-holds;
    data_of = data_holds;
    write_to = write_holds;
    register_new = register_new-holds;
    register_enter = register_enter-holds;
    register_read = register_read-holds;
    layout = layout-holds;
  }
