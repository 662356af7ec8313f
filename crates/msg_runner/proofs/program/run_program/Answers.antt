use Rattle.std.proofs.Common.{◌≡◌, rules}
use Rattle.msg_io.specs.Complaint.{status_of}
use Rattle.msg_runner.specs.Program.{Complains}
use Rattle.msg_runner.proofs.ProgramLemmas.{no_words}
use Rattle.msg_runner.proofs.program.run_program.Goals as goal

pub returns-in-Err-clause-ended : goal.returns-in-Err-clause-ended
returns-in-Err-clause-ended g c = λ other.
    let why = no_words c.args.program (g.R.Source.remaining c.args.source.now) (g.W.Sink.contents c.args.sink.now) c.in-Err.fault c.in-Err.ensures in
    let status : c.complain.result ≡ status_of c.in-Err.fault = search rules in
    let said : Complains {S = g.row.C.Denot} g.C.Sink.contents g.C.Sink.mark c.args.errors.now c.complain.new.sink c.args.program c.in-Err.fault = search rules in
    (why.0, (c.in-Err.fault, status, why.1, said))
