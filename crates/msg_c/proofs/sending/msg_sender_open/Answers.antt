use Rattle.std.proofs.Common.{◌≡◌, ap, false, slice_set, ◌∙◌, Some}
use Rattle.msg_cache.specs.declared.view.KeeperView.{KeeperView}
use Rattle.msg_host.specs.View.{SenderView}
use Rattle.msg_runtime.specs.View.{RuntimeView}
use Rattle.msg_c.specs.Answers.{runtime_given}
use Rattle.msg_c.proofs.RuntimeLemmas.{given_back}
use Rattle.msg_c.proofs.sending.msg_sender_open.Goals.{in-Ok+in-Ok-new, in-Ok+in-Err, in-Err-NoneFree, in-Err-Memory}
use Rattle.msg_c.proofs.sending.msg_sender_open.Goals as goal

-- a sender that isn't given leaves the numbers, and so does one that was taken back
pub returns-clause-unused : goal.returns-clause-unused
returns-clause-unused c refused =
    let was : c.deref_mut.result.now ≡ c.in-Some.held.value = c.deref_mut.ensures.value in
    let same : c.match-sender.held.value.keeper.given ≡ c.deref_mut.result.now.keeper.given = elim c.match-sender.branch [
      | in-Ok+in-Ok-new w ↦ absurd (refused w.answer-is)
      | in-Ok+in-Err w ↦
          let new = w.in-Ok.ensures.given in
          ap (λ b. b.value.keeper.given) w.held-is
          ∙ ap (λ (r : RuntimeView). r.keeper.given) w.finish.ensures
          ∙ ap (λ (r : RuntimeView). slice_set r.keeper.given w.in-Err.refused.value.seen.number false) w.deref_mut-in-Err.ensures.value
          ∙ ap (λ (u : SenderView). slice_set c.sender.new.self.keeper.given u.seen.number false) w.in-Err.ensures.value_returned
          ∙ ap (λ (k : KeeperView). slice_set k.given w.in-Ok.made.seen.number false) new.keeper
          ∙ given_back c.deref_mut.result.now.keeper.given w.in-Ok.made.seen.number new.was
      | in-Err-NoneFree w ↦ ap (λ b. b.value.keeper.given) w.held-is ∙ ap (λ (k : KeeperView). k.given) w.in-Err-NoneFree.ensures.left
      | in-Err-Memory w ↦ ap (λ b. b.value.keeper.given) w.held-is ∙ ap (λ (k : KeeperView). k.given) w.in-Err-Memory.ensures.left
    ] in
    ap runtime_given c.of.ensures ∙ ap Some (same ∙ ap (λ (r : RuntimeView). r.keeper.given) was) ∙ ap runtime_given c.in-Some.ensures.taken
