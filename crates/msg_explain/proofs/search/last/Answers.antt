use Rattle.std.proofs.Common.{◌≡◌, ◌+◌, ◌-◌, [], ◌∷◌, ◌++◌, take, Bool, true, false, cond, Some, option_map, bytes_eq, sym, ap, ◌∙◌, arith}
use Rattle.std.proofs.lemmas.List.{take_more}
use Rattle.serde_json.specs.Find.{get_member}
use Rattle.msg_json.specs.View.{view, members_view}
use Rattle.msg_json.proofs.ViewLemmas.{get_member-push}
use Rattle.msg_explain.proofs.PlaceLemmas.{slice_there}
use Rattle.msg_explain.proofs.search.last.Goals as goal

pub returns-then-eq-clause-value : goal.returns-then-eq-clause-value
returns-then-eq-clause-value c =
    let members = c.args.members.now in
    let key = c.args.key.now in
    let i = c.loop-left.left - 1 in
    let m = c.index-members-left.result in
    let next : c.loop-left.left ≡ i + 1 = omega arith in
    let front : take c.loop-left.left members ≡ take i members ++ m ∷ [] = ap (λ k. take k members) next ∙ take_more members i m (omega arith) ∙ ap (λ y. take i members ++ y ∷ []) (sym c.index-members-left.is) in
    let step = c.loop-left.invariant.0 ∙ ap (λ ms. get_member key (members_view ms)) front ∙ get_member-push key (take i members) m in
    let same : bytes_eq m.0.now key ≡ true = grind arith in
    step ∙ ap (λ (b : Bool). cond b (Some (view m.1)) (get_member key (members_view (take i members)))) same ∙ sym (ap (option_map (λ e. view e.1)) (slice_there members i m (omega arith) c.index-members-left.is))

pub loop-left-preserved : goal.loop-left-preserved
loop-left-preserved c =
    let members = c.args.members.now in
    let key = c.args.key.now in
    let i = c.loop-left.left - 1 in
    let m = c.index-members-left.result in
    let next : c.loop-left.left ≡ i + 1 = omega arith in
    let front : take c.loop-left.left members ≡ take i members ++ m ∷ [] = ap (λ k. take k members) next ∙ take_more members i m (omega arith) ∙ ap (λ y. take i members ++ y ∷ []) (sym c.index-members-left.is) in
    let step = c.loop-left.invariant.0 ∙ ap (λ ms. get_member key (members_view ms)) front ∙ get_member-push key (take i members) m in
    let other : bytes_eq m.0.now key ≡ false = grind arith in
    (step ∙ ap (λ (b : Bool). cond b (Some (view m.1)) (get_member key (members_view (take i members)))) other, omega arith)
