-- Where the slots are not 32, refusal 1.
use Rattle.bus_state.specs.Memory.{held}
use Rattle.bus_model.specs.Primitives.{new_state}
use Rattle.kettlefrost.proofs.Answered.{wrong_start}
use Rattle.kettlefrost.proofs.kf_start.Goals as goal

pub returns-in_default : goal.returns-in_default
returns-in_default c =
    let m = held (new_state 0) c.args.slots.now c.args.payload.now c.args.queues.now in
    rw (c.no_start.ensures, wrong_start m c.in_default.ensures.1)
