-- The numbers of what the writing answered.
use Rattle.kettlefrost.proofs.kf_write.Goals as goal

pub returns : goal.returns
returns c = record {
  answer = rw (← c.write_named-w.ensures.answer, c.number_of.ensures, c.length_written.ensures);
  written = c.write_named-w.ensures.written;
}
