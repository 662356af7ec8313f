use Rattle.std.proofs.Common.{◌≡◌, ap, subst, ◌∙◌}
use Rattle.std.proofs.lemmas.Option.{same_Some}
use Rattle.msg_cache.specs.Counts.{AreCounts}
use Rattle.msg_host.specs.Config.{word_at}
use Rattle.msg_runtime.specs.View.{RuntimeView}
use Rattle.msg_c.specs.Shown.{counts_of}
use Rattle.msg_c.proofs.reporting.msg_report_words.Goals as goal

pub returns-clause-done : goal.returns-clause-done
returns-clause-done c done v held =
    let view : c.deref.result.now ≡ v = c.deref.ensures ∙ same_Some c.in-Some.held.value v (c.in-Some.ensures.taken ∙ held) in
    let told : c.report.result ≡ v.report = c.report.ensures.value ∙ ap (λ (r : RuntimeView). r.report) view in
    let shown = c.counts.ensures ∙ ap counts_of told in
    (subst AreCounts told c.report.ensures.counts, record { counts = λ place inside. c.write.ensures place inside ∙ ap (λ ws. word_at ws place) shown })
