use Rattle.std.proofs.Common.{◌≡◌, true, arith}
use Rattle.msg_io.specs.CommandLine.{is_number, argument_number}
use Rattle.msg_io.proofs.WordLemmas.{parse_number}
use Rattle.msg_io.proofs.command_line.number.Goals as goal

pub returns-then-is_number : goal.returns-then-is_number
unfolding argument_number
returns-then-is_number c =
    let is : is_number c.args.word.now ≡ true = grind arith in
    let read = parse_number c.args.word.now c.parse.result c.parse.ensures.value.0 is in
    grind arith
