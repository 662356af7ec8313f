use Rattle.std.proofs.Common.{◌≡◌, ◌++◌, OnOk, OnErr, subst, ◌∙◌, arith}
use Rattle.std.specs.Io.KnownBytes.{Appends}
use Rattle.msg_io.specs.Decimal.{digits}
use Rattle.msg_io.specs.Writing.{AppendsStart}
use Rattle.msg_io.proofs.DecimalLemmas.{digits_is}
use Rattle.msg_io.proofs.decimal.write_numbered.Goals as goal

pub returns-clause-whole : goal.returns-clause-whole
returns-clause-whole g c =
    let text : c.as_bytes.result.now ≡ digits c.args.number = c.as_bytes.ensures.value ∙ c.format.ensures.text ∙ digits_is c.args.number (omega arith) in
    subst (λ t. OnOk c.write_both.result (Appends (g.S.Sink.contents c.args.sink.now) (g.S.Sink.contents c.write_both.new.sink) (c.args.these.now ++ t))) text c.write_both.ensures.whole

pub returns-clause-start : goal.returns-clause-start
returns-clause-start g c =
    let text : c.as_bytes.result.now ≡ digits c.args.number = c.as_bytes.ensures.value ∙ c.format.ensures.text ∙ digits_is c.args.number (omega arith) in
    subst (λ t. OnErr c.write_both.result (AppendsStart (g.S.Sink.contents c.args.sink.now) (g.S.Sink.contents c.write_both.new.sink) (c.args.these.now ++ t))) text c.write_both.ensures.start
