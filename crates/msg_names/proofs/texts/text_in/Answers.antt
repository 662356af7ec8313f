use Rattle.std.proofs.Common.{rules, arith, ◌≡◌, ◌∙◌, ◌-◌, ◌+◌, ap, sym, ℕ, Some, option_map, slice_get}
use Rattle.std.specs.Prelude.{Vec}
use Rattle.std.specs.Global.{Global}
use Rattle.std.proofs.lemmas.Option.{slice_get-map}
use Rattle.msg_names.specs.Texts.{texts_of}
use Rattle.msg_names.proofs.texts.text_in.Goals as goal

pub returns-clause-numbered : goal.returns-clause-numbered
returns-clause-numbered c =
    let at : slice_get c.args.set.now.keys (c.args.number - 1) ≡ Some c.in_ok-text.text.now = search rules in
    let found : slice_get (texts_of c.args.set.now.keys) (c.args.number - 1) ≡ Some c.as_slice.result.now =
    slice_get-map (λ (k : Vec ℕ Global). k.items) c.args.set.now.keys (c.args.number - 1) ∙ ap (option_map (λ (k : Vec ℕ Global). k.items)) at ∙ ap Some (search rules) in
    c.requires (c.args.number - 1) c.as_slice.result.now found ∙ ap Some (omega arith)
