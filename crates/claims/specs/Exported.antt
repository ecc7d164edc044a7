-- Believed. The public calls meet the demands, whatever they are called with: a statement a function, about its parameters, its
-- result and what its lent memory holds when it returns. A function that did less, or asked more of its caller, would not meet it. C calls
-- them through kettlefrost_c, where each exported function is one call of the function of its name and keeps the same clauses. Of the
-- toolchain's words, `x.now` is what is behind a reference, `a.0`, `a.1.0` .. are the parameters in their order, `e.0` .. the same
-- when the function returns, and `Meets` says that every run of a routine returns and keeps a contract.
-- Assumes nothing.
use Rattle.std.specs.Prelude.{◌≡◌, [], take, drop}
use seplogic.Ra.Ura.{Ura}
use base.Logic.{emp}
use mir.Syntax.{Callee}
use prog.Model.{Model}
use prog.Wired.{Code, Wired}
use types.Logic.{Logic}
use contract.Lifetimes.{Lfts}
use contract.Monad.{fact}
use contract.Running.{Running}
use denote.Triple.Clauses.{Ended, AtExit, closing}
use denote.Triple.Entry.{Args, Res}
use denote.Triple.Spec.{Meets}
use Rattle.operation.specs.Number.{Bytes}
use Rattle.plain_bus.specs.Register.{new_register}
use Rattle.bus_state.specs.Memory.{held}
use Rattle.open_frames.specs.Record.{record_of}
use Rattle.kettlefrost.specs.Flat.{named}
use Rattle.kettlefrost.specs.Calls.{data_answer}
use Rattle.kettlefrost.specs.Layout.{layout_number}
use Rattle.kettlefrost.specs.contracts.kf_start as kf-start
use Rattle.kettlefrost.proofs.kf_start.Symbol as start-code
use Rattle.kettlefrost.specs.contracts.kf_submit as kf-submit
use Rattle.kettlefrost.proofs.kf_submit.Symbol as submit-code
use Rattle.kettlefrost.specs.contracts.kf_round as kf-round
use Rattle.kettlefrost.proofs.kf_round.Symbol as round-code
use Rattle.kettlefrost.specs.contracts.kf_collect as kf-collect
use Rattle.kettlefrost.proofs.kf_collect.Symbol as collect-code
use Rattle.kettlefrost.specs.contracts.kf_read as kf-read
use Rattle.kettlefrost.proofs.kf_read.Symbol as read-code
use Rattle.kettlefrost.specs.contracts.kf_data as kf-data
use Rattle.kettlefrost.proofs.kf_data.Symbol as data-code
use Rattle.kettlefrost.specs.contracts.kf_write as kf-write
use Rattle.kettlefrost.proofs.kf_write.Symbol as write-code
use Rattle.kettlefrost.specs.contracts.register.kf_register_new as kf-register-new
use Rattle.kettlefrost.proofs.register.kf_register_new.Symbol as register-new-code
use Rattle.kettlefrost.specs.contracts.register.kf_register_enter as kf-register-enter
use Rattle.kettlefrost.proofs.register.kf_register_enter.Symbol as register-enter-code
use Rattle.kettlefrost.specs.contracts.register.kf_register_read as kf-register-read
use Rattle.kettlefrost.proofs.register.kf_register_read.Symbol as register-read-code
use Rattle.kettlefrost.specs.contracts.layout.kf_layout as kf-layout
use Rattle.kettlefrost.proofs.layout.kf_layout.Symbol as layout_code
use Rattle.claims.specs.RoundTrip.{Read, Wrote}
use Rattle.claims.specs.Demands.{submits, arbitrates, collects, Demanded, Started, Enters, Closes}

-- a statement about a function of this signature: its lifetimes, its parameters, its result, and its parameters when it returns
abbrev pub Statement : Ended → Type 1
Statement T = (κs : Lfts T.signature.lifetimes) → Args T.signature κs → Res T.signature κs → AtExit T κs → Type 0

-- ---- the bus

-- kf_start(slots, payload, queues, count)
abbrev pub Start : Statement kf-start.ended
Start κs a r e =
    let slots = a.0 in
    let payload = a.1.0 in
    let queues = a.1.1.0 in
    let count = a.1.1.1.0 in
    Started slots.now payload.now queues.now count r e.0.now

-- kf_submit(state, slots, payload, queues, node, buffer)
abbrev pub Submit : Statement kf-submit.ended
Submit κs a r e =
    let state = a.0 in
    let slots = a.1.0 in
    let payload = a.1.1.0 in
    let queues = a.1.1.1.0 in
    let node = a.1.1.1.1.0 in
    let buffer = a.1.1.1.1.1.0 in
    (u : Bytes buffer.now)
    × Demanded (submits node buffer.now u) (held state slots.now payload.now queues.now) r []
    (held r.state e.1.0.now e.1.1.0.now e.1.1.1.0.now)

-- kf_round(state, slots, payload, queues, injected, code, detector)
abbrev pub Round : Statement kf-round.ended
Round κs a r e =
    let state = a.0 in
    let slots = a.1.0 in
    let payload = a.1.1.0 in
    let queues = a.1.1.1.0 in
    let injected = a.1.1.1.1.0 in
    let code = a.1.1.1.1.1.0 in
    let detector = a.1.1.1.1.1.1.0 in
    Demanded (arbitrates injected code detector) (held state slots.now payload.now queues.now) r []
    (held r.state e.1.0.now e.1.1.0.now e.1.1.1.0.now)

-- kf_collect(state, slots, payload, queues, node, buffer): slots, payload and queues are only read. The bytes given are the first of the
-- caller's buffer, and past them it is as it was
abbrev pub Collect : Statement kf-collect.ended
Collect κs a r e =
    let state = a.0 in
    let slots = a.1.0 in
    let payload = a.1.1.0 in
    let queues = a.1.1.1.0 in
    let node = a.1.1.1.1.0 in
    let buffer = a.1.1.1.1.1.0 in
    let after = e.1.1.1.1.1.0 in
    Demanded (collects node buffer.now) (held state slots.now payload.now queues.now) r (take r.length after.now)
    (held r.state slots.now payload.now queues.now)
    × (drop r.length after.now ≡ drop r.length buffer.now)

-- ---- reading and writing

-- kf_read(buffer, at)
abbrev pub ReadAt : Statement kf-read.ended
ReadAt κs a r e =
    let buffer = a.0 in
    let at = a.1.0 in
    Read buffer.now at r

-- kf_data(buffer, operation, next)
abbrev pub DataOf : Statement kf-data.ended
DataOf κs a r e =
    let buffer = a.0 in
    let operation = a.1.0 in
    let next = a.1.1.0 in
    r ≡ data_answer buffer.now (named operation) next

-- kf_write(operation, payload, buffer)
abbrev pub WriteTo : Statement kf-write.ended
WriteTo κs a r e =
    let operation = a.0 in
    let payload = a.1.0 in
    let buffer = a.1.1.0 in
    Wrote operation payload.now buffer.now r e.1.1.0.now

-- ---- the registers

-- kf_register_new()
abbrev pub RegisterNew : Statement kf-register-new.ended
RegisterNew κs a r e = r ≡ record_of new_register

-- kf_register_enter(register, buffer)
abbrev pub RegisterEnter : Statement kf-register-enter.ended
RegisterEnter κs a r e =
    let register = a.0 in
    let buffer = a.1.0 in
    Enters register buffer.now r

-- kf_register_read(register, buffer)
abbrev pub RegisterRead : Statement kf-register-read.ended
RegisterRead κs a r e =
    let register = a.0 in
    let buffer = a.1.0 in
    Closes register buffer.now r

-- ---- the records

-- kf_layout()
abbrev pub Layout : Statement kf-layout.ended
Layout κs a r e = r ≡ layout_number

-- ---- all of them

-- on every machine that has the function's code under its name each run of it returns, nothing being asked of its caller, and the statement
-- holds
abbrev pub Holds : (M : Type 1) (T : Ended) → Code → Callee → Statement T → Type 2
Holds M T code name P =
    (𝓤 : Ura M) (𝓛 : Logic 𝓤) (𝓜 : Model 𝓤 𝓛.H) (𝓡 : Running 𝓤 𝓛.H 𝓜)
    → Wired 𝓡.env code
    → Meets 𝓛 T.signature (𝓡.run (𝓡.env name))
    (closing 𝓛 T (λ κs a. record {
      ghost = Unit {0};
      requires = λ g. emp 𝓤;
      ensures = λ g r e. fact 𝓤 (P κs a r e);
    }))

pub record Exported (M : Type 1) : Type 2 where
  pub start : Holds M kf-start.ended start-code.code start-code.name Start
  pub submit : Holds M kf-submit.ended submit-code.code submit-code.name Submit
  pub round : Holds M kf-round.ended round-code.code round-code.name Round
  pub collect : Holds M kf-collect.ended collect-code.code collect-code.name Collect
  pub read_at : Holds M kf-read.ended read-code.code read-code.name ReadAt
  pub data_of : Holds M kf-data.ended data-code.code data-code.name DataOf
  pub write_to : Holds M kf-write.ended write-code.code write-code.name WriteTo
  pub register_new : Holds M kf-register-new.ended register-new-code.code register-new-code.name RegisterNew
  pub register_enter : Holds M kf-register-enter.ended register-enter-code.code register-enter-code.name RegisterEnter
  pub register_read : Holds M kf-register-read.ended register-read-code.code register-read-code.name RegisterRead
  pub layout : Holds M kf-layout.ended layout_code.code layout_code.name Layout
