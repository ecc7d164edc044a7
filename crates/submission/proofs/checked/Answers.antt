-- The tests in their order.
use Rattle.submission.proofs.Submits.{not-attached, too_long, lacking}
use Rattle.std.proofs.lemmas.Result.{err_from_is_err_and}
use mathlib.Core.Path.{refl, sym, ◌∙◌}
use native.Mathlib.Omega.{arith}
use Rattle.submission.proofs.checked.Goals as goal

pub check_buffer-requires : goal.check_buffer-requires
check_buffer-requires c =
    (omega arith, refl)

pub returns-then-s-node : goal.returns-then-s-node
returns-then-s-node c = record { passed = tt; refused = not-attached c.args.s.now c.args.node c.args.buffer.now c.if-s-node.true }

pub returns-then-buffer-gt-LONGEST_BUFFER : goal.returns-then-buffer-gt-LONGEST_BUFFER
returns-then-buffer-gt-LONGEST_BUFFER c =
    record { passed = tt; refused = too_long c.args.s.now c.args.node c.args.buffer.now c.if-s-node.false c.if-buffer-gt-LONGEST_BUFFER.true }

pub returns-in_err-check_buffer : goal.returns-in_err-check_buffer
returns-in_err-check_buffer c =
    let p = err_from_is_err_and c.from_residual.result c.from_residual.ensures.1 in
    rw (p.1, p.2)
    (record {
      passed = tt;
      refused = lacking c.args.s.now c.args.node c.args.buffer.now c.if-s-node.false c.if-buffer-gt-LONGEST_BUFFER.false (sym c.check_buffer.ensures ∙ c.in_err-check_buffer.was);
    })

pub returns : goal.returns
returns c =
    record {
      passed = record {
        attached = c.if-s-node.false;
        short = c.if-buffer-gt-LONGEST_BUFFER.false;
        entry = refl;
        goes = sym c.check_buffer.ensures ∙ c.in_ok-check_buffer.was;
      };
      refused = tt;
    }
