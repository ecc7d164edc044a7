-- Where the slots are not 32, refusal 1.
use Rattle.bus_state.specs.Memory.{held}
use Rattle.kettlefrost.proofs.Answered.{wrong_submit}
use Rattle.kettlefrost.proofs.kf_submit.Goals as goal

pub returns-in_default : goal.returns-in_default
returns-in_default c =
    let m = held c.args.state c.args.slots.now c.args.payload.now c.args.queues.now in
    rw (c.wrong_memory.ensures, wrong_submit m c.in_default.ensures.1)
