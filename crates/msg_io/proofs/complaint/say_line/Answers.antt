use Rattle.std.proofs.Common.{◌≡◌, ◌++◌, OnErr, option_map, subst, ◌∙◌, codes}
use Rattle.msg_io.specs.Complaint.{program_name, said_line}
use Rattle.msg_io.specs.Writing.{AppendsStart}
use Rattle.msg_io.proofs.ByteLemmas.{start_after}
use Rattle.msg_io.proofs.complaint.say_line.Goals as goal

pub returns-clause-start : goal.returns-clause-start
returns-clause-start g c =
    let prefix : c.as_bytes.result.now ≡ program_name c.args.program ++ codes ": " = c.as_bytes.ensures.value ∙ c.prefix.ensures in
    let said = said_line c.args.program (option_map (λ f. f.now) c.args.fault) in
    subst (λ t. OnErr c.say.result (AppendsStart (g.W.Sink.contents c.args.sink.now) (g.W.Sink.contents c.say.new.sink) (t ++ said))) prefix
    (start_after _ _ _ c.as_bytes.result.now said c.say.result c.in_ok-write_whole.ensures.whole c.say.ensures.start)
