-- The data of an operation stay before the position.
use Rattle.decoder.proofs.Payload.{data_within}
use Rattle.kettlefrost.proofs.kf_data.Goals as goal

pub overflow_sub-result : goal.overflow_sub-result
overflow_sub-result c = rw c.data-n.ensures (data_within _ _ _)
