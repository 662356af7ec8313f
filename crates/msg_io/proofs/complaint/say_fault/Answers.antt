use Rattle.std.proofs.Common.{◌++◌, List, ℕ, Result, Ok, Err, OnOk, Option, subst, ap, ◌∙◌, codes}
use Rattle.std.proofs.KnownBytes.{Appends-trans}
use Rattle.std.proofs.lemmas.Result.{err_from_is_err_and}
use Rattle.std.specs.Io.KnownBytes.{Appends}
use Rattle.msg_form.specs.FaultNumber.{document_fault_number, document_fault_text}
use Rattle.msg_form.specs.declared.faults.DocumentFault.{DocumentFault}
use Rattle.msg_io.specs.Decimal.{digits}
use Rattle.msg_io.specs.Writing.{AppendsStart}
use Rattle.msg_io.proofs.ByteLemmas.{start_of_these, start_of_those, start_after}
use Rattle.msg_io.proofs.complaint.say_fault.Goals as goal

-- the line in three parts
abbrev head : DocumentFault → List ℕ
head f = codes "document fault " ++ digits (document_fault_number f)

abbrev middle : DocumentFault → List ℕ
middle f = codes ": " ++ document_fault_text f

pub returns-in_err-write_numbered-clause-start : goal.returns-in_err-write_numbered-clause-start
returns-in_err-write_numbered-clause-start g c =
    let e = err_from_is_err_and c.from_residual.result c.from_residual.ensures.1 in
    let number = ap digits c.number.ensures in
    let first = subst (λ t. AppendsStart (g.W.Sink.contents c.args.sink.now) (g.W.Sink.contents c.write_numbered.new.sink) (codes "document fault " ++ t)) number c.in_err-write_numbered.ensures.start in
    rw (e.1) (start_of_these _ _ (head c.args.fault) (middle c.args.fault ++ codes "\n") first)

pub returns-in_err-write_both-clause-start : goal.returns-in_err-write_both-clause-start
returns-in_err-write_both-clause-start g c =
    let e = err_from_is_err_and c.from_residual-in_err-write_both.result c.from_residual-in_err-write_both.ensures.1 in
    let number = ap digits c.number.ensures in
    let first = subst (λ t. Appends (g.W.Sink.contents c.args.sink.now) (g.W.Sink.contents c.write_numbered.new.sink) (codes "document fault " ++ t)) number c.in_ok-write_numbered.ensures.whole in
    let second = subst (λ t. AppendsStart (g.W.Sink.contents c.write_numbered.new.sink) (g.W.Sink.contents c.write_both.new.sink) (codes ": " ++ t)) (c.as_bytes.ensures.value ∙ c.text.ensures) c.in_err-write_both.ensures.start in
    rw (e.1) (start_of_those _ _ _ (head c.args.fault) (middle c.args.fault ++ codes "\n") first (start_of_these _ _ (middle c.args.fault) (codes "\n") second))

after : {A E : Type 0} (a b c d : Option (List ℕ)) (one two three : List ℕ) (r : Result A E) → Appends a b one → Appends b c two → OnOk r (Appends c d three) → OnOk r (Appends a d (one ++ (two ++ three)))
after a b c d one two three (Ok x) first second third = Appends-trans a b d one (two ++ three) first (Appends-trans b c d two three second third)
after a b c d one two three (Err e) first second third = tt

pub returns-clause-whole : goal.returns-clause-whole
returns-clause-whole g c =
    let number = ap digits c.number.ensures in
    let first = subst (λ t. Appends (g.W.Sink.contents c.args.sink.now) (g.W.Sink.contents c.write_numbered.new.sink) (codes "document fault " ++ t)) number c.in_ok-write_numbered.ensures.whole in
    let second = subst (λ t. Appends (g.W.Sink.contents c.write_numbered.new.sink) (g.W.Sink.contents c.write_both.new.sink) (codes ": " ++ t)) (c.as_bytes.ensures.value ∙ c.text.ensures) c.in_ok-write_both.ensures.whole in
    after _ _ _ _ (head c.args.fault) (middle c.args.fault) (codes "\n") c.write_whole.result first second c.write_whole.ensures.whole

pub returns-clause-start : goal.returns-clause-start
returns-clause-start g c =
    let number = ap digits c.number.ensures in
    let first = subst (λ t. Appends (g.W.Sink.contents c.args.sink.now) (g.W.Sink.contents c.write_numbered.new.sink) (codes "document fault " ++ t)) number c.in_ok-write_numbered.ensures.whole in
    let second = subst (λ t. Appends (g.W.Sink.contents c.write_numbered.new.sink) (g.W.Sink.contents c.write_both.new.sink) (codes ": " ++ t)) (c.as_bytes.ensures.value ∙ c.text.ensures) c.in_ok-write_both.ensures.whole in
    start_after _ _ _ (head c.args.fault) (middle c.args.fault ++ codes "\n") c.write_whole.result first (start_after _ _ _ (middle c.args.fault) (codes "\n") c.write_whole.result second c.write_whole.ensures.start)
