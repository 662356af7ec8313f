use Rattle.msg_form.proofs.FormNamesLemmas.{many_so_far, few_gathered}
use Rattle.msg_form.proofs.form_names.add_while_few.Goals as goal

pub returns-then-len-gt-MAX_NAMES : goal.returns-then-len-gt-MAX_NAMES
returns-then-len-gt-MAX_NAMES c = many_so_far c.args.texts.now c.loop-text.text-index c.args.selectors.now c.loop-text.selectors c.len.result c.len.ensures c.if-len-gt-MAX_NAMES.true c.loop-text.invariant

pub returns : goal.returns
returns c = few_gathered c.args.texts.now c.loop-text.text-index c.args.selectors.now c.loop-text.selectors c.loop-text-test.false c.loop-text.invariant
