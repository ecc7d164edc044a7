use Rattle.std.proofs.Common.{ap, cond, length, List, ℕ, ◌++◌}
use Rattle.std.proofs.lemmas.List.{drop-replicate}
use Rattle.open_frames.specs.Record.{record_of}
use Rattle.open_frames.proofs.Opened.{off_is}
use Rattle.open_frames.proofs.RegisterFromOpenFrames.from.Goals as goal

pub returns : goal.returns
unfolding record_of
returns c =
    let ids = c.frames.inside.ids.items in
    let off = off_is c.frames.inside.off in
    rw (← c.frames.view_is, c.copy_from_slice.ensures.after, c.as_slice.ensures.value, c.len-count.ensures.value, off)
    (ap (λ (l : List ℕ). record { ids = ids ++ l; count = length ids; off = cond c.frames.inside.off 1 0 }) (drop-replicate (length ids) 345 0))
