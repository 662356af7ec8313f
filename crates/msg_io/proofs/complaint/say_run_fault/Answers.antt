use Rattle.std.proofs.Common.{OnOk, OnErr, subst, sym}
use Rattle.std.specs.Io.KnownBytes.{Appends}
use Rattle.msg_io.specs.Complaint.{run_fault_line}
use Rattle.msg_io.specs.Writing.{AppendsStart}
use Rattle.msg_io.proofs.complaint.say_run_fault.Goals as goal

pub returns-in-Workers-clause-start : goal.returns-in-Workers-clause-start
returns-in-Workers-clause-start g c =
    subst (λ f. OnErr c.write_whole-in-Workers.result (AppendsStart (g.W.Sink.contents c.args.sink.now) (g.W.Sink.contents c.write_whole-in-Workers.new.sink) (run_fault_line f))) (sym c.in-Workers.is) c.write_whole-in-Workers.ensures.start

pub returns-in-Cut-clause-whole : goal.returns-in-Cut-clause-whole
returns-in-Cut-clause-whole g c =
    subst (λ f. OnOk c.write_whole-in-Cut.result (Appends (g.W.Sink.contents c.args.sink.now) (g.W.Sink.contents c.write_whole-in-Cut.new.sink) (run_fault_line f))) (sym c.in-Cut.is) c.write_whole-in-Cut.ensures.whole

pub returns-in-Cut-clause-start : goal.returns-in-Cut-clause-start
returns-in-Cut-clause-start g c =
    subst (λ f. OnErr c.write_whole-in-Cut.result (AppendsStart (g.W.Sink.contents c.args.sink.now) (g.W.Sink.contents c.write_whole-in-Cut.new.sink) (run_fault_line f))) (sym c.in-Cut.is) c.write_whole-in-Cut.ensures.start
