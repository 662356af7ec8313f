use Rattle.std.proofs.Common.{◌≡◌, [], true, ap, subst, sym, ◌∙◌}
use Rattle.msg_tables.specs.History.{log}
use Rattle.msg_tables.specs.Stands.{StandsAt}
use Rattle.msg_tables.specs.View.{TablesView}
use Rattle.msg_eval.specs.Evaluation.{send_of}
use Rattle.msg_reasons.specs.Noted.{NotingView}
use Rattle.msg_reasons.proofs.NotedLemmas.{noted_at, noted-after}
use Rattle.msg_reasons.proofs.noting.Noting.send.Goals as goal
use Rattle.msg_reasons.proofs.noting.Noting.send.Goals.{then-self, else-self}

pub returns-clause-meaning : goal.returns-clause-meaning
returns-clause-meaning c =
    elim c.if-self.branch [
      | then-self w ↦ rw w.result-is (λ h st.
          let send = send_of c.args.image.now c.args.receiver c.args.sel c.args.args.now.items in
          let stood = subst (λ (t : TablesView). StandsAt t (log h)) c.send-reply.ensures.kept st in
          let x = c.send-reply.ensures.meaning (noted_at h []) (stood, λ whole. c.begin.ensures.lookups) in
          let (lookups, reply) = noted-after h [] send x.state c.send-reply.result x.leads in
          let whole : c.send-reply.new.finder.is_whole ≡ true = ap (λ (n : NotingView). n.is_whole) (sym c.self.view_is) ∙ w.if-self.true in
          (x.there.1 whole ∙ lookups, reply))
      | else-self w ↦ rw w.result-is tt
    ]
