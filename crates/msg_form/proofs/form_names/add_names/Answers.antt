use Rattle.std.proofs.Common.{map}
use Rattle.std.specs.Prelude.{fold}
use Rattle.msg_names.specs.Numbering.{with_name}
use Rattle.msg_form.specs.Text.{repeats}
use Rattle.msg_form.proofs.TextLemmas.{twice_on, added_on}
use Rattle.msg_form.proofs.form_names.add_names.Goals as goal

pub loop-part-preserved : goal.loop-part-preserved
loop-part-preserved g c =
    let texts = map g.T.Named.named c.args.parts.now in
    record {
      twice = twice_on g.T.Named.named c.args.parts.now c.loop-part.part-index c.part-item.result c.name.result.now c.in_ok-new.new c.loop-part.twice c.loop-part.names c.insert.new.self (repeats c.args.names.now texts) c.loop-part-test.true c.part-item.is c.name.ensures
          c.in_ok-new.ensures.added c.in_ok-new.ensures.names c.loop-part.invariant.twice;
      names = added_on g.T.Named.named c.args.parts.now c.loop-part.part-index c.part-item.result c.name.result.now c.loop-part.names c.insert.new.self (fold with_name c.args.names.now texts) c.loop-part-test.true c.part-item.is c.name.ensures
          c.in_ok-new.ensures.names c.loop-part.invariant.names;
    }
