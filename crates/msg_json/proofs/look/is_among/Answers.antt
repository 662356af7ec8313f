use Rattle.std.proofs.Common.{rules, tests, bytes_eq, sym, ◌∙◌}
use Rattle.std.proofs.lemmas.Iterator.Adapters.{YieldsList-from_rev_slice}
use Rattle.std.proofs.lemmas.Iterator.Search.{any_from_yields_List}
use Rattle.std.proofs.lemmas.List.Sorted.{IsPermutation-reverse, list_any-IsPermutation}
use Rattle.msg_json.proofs.look.is_among.Goals as goal

pub returns : goal.returns
returns c =
    let members = c.args.members.now in
    let found = any_from_yields_List (λ m. bytes_eq m.0.now c.args.key.now) _ _ _ c.any.ensures.ran (YieldsList-from_rev_slice members cc) (λ x b q k. search (rules, tests)) in
    found ∙ sym (list_any-IsPermutation (λ m. bytes_eq m.0.now c.args.key.now) members _ (IsPermutation-reverse members))
