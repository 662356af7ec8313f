use Rattle.std.proofs.Common.{◌≡◌, ◌++◌, ◌∙◌, ℕ, List, ap, subst}
use Rattle.msg_image.specs.Items.{SendItem}
use Rattle.msg_tables.specs.View.{TablesView}
use Rattle.msg_tables.specs.declared.take_back.Start.{Start}
use Rattle.msg_reasons.specs.Items.{ExplainsItem}
use Rattle.msg_reasons.specs.Lookups.{Looked}
use Rattle.msg_reasons.specs.Text.{lookups_text}
use Rattle.msg_reasons.proofs.ItemLemmas.{sent-explained}
use Rattle.msg_reasons.proofs.explaining.Explainer.explain_send.Goals as goal

pub returns-clause-item : goal.returns-clause-item
returns-clause-item c =
    let image = c.args.image.now in
    let changes : c.start-changes.result.changes ≡ c.send.new.self.tables.change_count =
    ap (λ (s : Start). s.changes) c.start-changes.ensures.start ∙ ap (λ (t : TablesView). t.change_count) c.tables.ensures in
    subst (λ (t : TablesView). ExplainsItem image (SendItem c.args.receiver c.args.sel c.args.args.now.items) t c.send.new.self.tables c.args.text.now.items c.push_lookups.new.text.items) c.send.ensures.tables
    (sent-explained image c.args.receiver c.args.sel c.args.args.now.items c.send.new.self c.args.text.now.items c.push_reply.new.text.items c.push_lookups.new.text.items
    c.in_ok-reply.reply c.in_ok-reply.ensures.meaning c.in_ok-push_reply.ensures
    (subst (λ (n : ℕ). c.push_lookups.new.text.items ≡ c.push_reply.new.text.items ++ lookups_text image c.send.new.self.lookups n) changes
    (subst (λ (ls : List Looked). c.push_lookups.new.text.items ≡ c.push_reply.new.text.items ++ lookups_text image ls c.start-changes.result.changes) c.lookups.ensures c.in_ok-push_lookups.ensures.lookups)))
