use Rattle.std.specs.List.{flat_map}
use Rattle.msg_reasons.specs.Moving.{all_seen, seen_of}
use Rattle.msg_reasons.specs.Text.{seen_line}
use Rattle.std.proofs.Common.{◌++◌}
use Rattle.msg_reasons.proofs.TextLemmas.{lines_next}
use Rattle.msg_reasons.proofs.text.push_seen_lines.Goals as goal

pub loop-one-preserved : goal.loop-one-preserved
loop-one-preserved c = lines_next (seen_line c.args.image.now) seen_of c.args.seen.now c.loop-one.one-index c.one-item.result c.loop-one.text.items c.push_seen_line.new.text.items (c.args.text.now.items ++ flat_map (seen_line c.args.image.now) (all_seen c.args.seen.now)) c.loop-one-test.true c.one-item.is c.in_ok-push_seen_line.ensures c.loop-one.invariant
