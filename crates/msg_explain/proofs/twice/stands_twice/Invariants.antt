use Rattle.std.proofs.Common.{◌≡◌, drop}
use Rattle.std.specs.Prelude.{if◌then◌else◌}
use Rattle.msg_form.specs.Text.{is_among, texts_view}
use Rattle.msg_explain.specs.Judging.{stands_twice}
use Rattle.msg_explain.proofs.twice.stands_twice.Given as goal

-- the texts that are left decide
abbrev pub invariant-loop-other : goal.invariant-loop-other
invariant-loop-other l = (if l.stands then is_among l.text (texts_view (drop l.other-index l.texts)) else stands_twice (texts_view (drop l.other-index l.texts)) l.text) ≡ stands_twice (texts_view l.texts) l.text
