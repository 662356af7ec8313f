use Rattle.std.proofs.Common.{◌≡◌, true, sym, subst}
use Rattle.std.proofs.lemmas.List.Elements.{All-push}
use Rattle.msg_json.specs.View.{view}
use Rattle.msg_form.specs.Views.{form_view}
use Rattle.msg_explain.specs.Judging.{HasFaultAt, has_fault}
use Rattle.msg_explain.specs.Walks.{AreFaulty, IsOnWay, IsTold, StayTold}
use Rattle.msg_explain.specs.declared.place.Place.{Place}
use Rattle.msg_explain.proofs.WalkLemmas.{stay_pushed, told_pushed}
use Rattle.msg_explain.proofs.walk.judge_value.Goals as goal

pub returns-in_ok-push-clause-sound : goal.returns-in_ok-push-clause-sound
returns-in_ok-push-clause-sound c =
    let w = c.args.walk.now in
    let p : Place = record { path = c.in_ok-path.path; wanted = c.args.wanted; found = c.args.value.now } in
    let same : c.in_ok-path.path.items ≡ c.args.path.now.items = c.in_ok-path.ensures in
    let faulty : has_fault (form_view w.judge.form.now) w.judge.fault c.args.wanted (view c.args.value.now) ≡ true = cc (c.in_ok-has_fault.ensures, c.if-branch.true) in
    let there = subst (λ q. IsOnWay w q c.args.wanted (view c.args.value.now)) (sym same) c.requires.here in
    subst (AreFaulty w) (sym c.in_ok-push.ensures.items) (All-push (HasFaultAt (form_view w.judge.form.now) w.judge.fault w.wanted (view w.document)) c.args.told.now.items p c.requires.sound (record { there = there; faulty = faulty }))

pub returns-in_ok-push-clause-kept : goal.returns-in_ok-push-clause-kept
returns-in_ok-push-clause-kept c =
    let p : Place = record { path = c.in_ok-path.path; wanted = c.args.wanted; found = c.args.value.now } in
    subst (StayTold c.args.told.now.items) (sym c.in_ok-push.ensures.items) (stay_pushed c.args.told.now.items p)

pub returns-in_ok-push-clause-told : goal.returns-in_ok-push-clause-told
returns-in_ok-push-clause-told c faulty =
    let p : Place = record { path = c.in_ok-path.path; wanted = c.args.wanted; found = c.args.value.now } in
    let same : c.in_ok-path.path.items ≡ c.args.path.now.items = c.in_ok-path.ensures in
    subst (λ ps. IsTold ps c.args.path.now.items) (sym c.in_ok-push.ensures.items) (told_pushed c.args.told.now.items p c.args.path.now.items same)
