-- Readings of values among other values.
use Rattle.std.proofs.Common.{◌≡◌, ◌-◌, ◌≤◌, List, true, map, take, drop, get_or, length, Option, Some, ap, refl, codes, bytes_eq, arith, length-drop}
use Rattle.std.proofs.lemmas.List.{drop-map, take_all}
use Rattle.std.proofs.lemmas.Slice.Eq.{bytes_eq-Decides}
use Rattle.serde_json.specs.Data.{Data}
use Rattle.serde_json.specs.Find.{as_str}
use Rattle.msg_json.specs.declared.tree.Tree.{Tree}
use Rattle.msg_json.specs.View.{view}
use Rattle.msg_form.specs.Expression.{Constant}
use Rattle.msg_form.specs.ExprShape.{constant_of}
use Rattle.msg_form.specs.Form.{send_item}
use Rattle.msg_form.specs.Gives.{Fails}
use Rattle.msg_form.specs.Json.{◌>>=◌, each, list_at, value_of}
use Rattle.msg_form.specs.Shape.{worded_change_of, attach_of, send_item_of}
use Rattle.msg_form.specs.Text.{Text}
use Rattle.msg_form.specs.declared.faults.ReadFault.{ReadFault}
use Rattle.msg_form.specs.declared.faults.ReadFault.TheVariants as faults
use Rattle.msg_form.proofs.JsonLemmas.{value_there}

-- if a part is not read, the value spells nothing
pub fails_on : {Y Z : Type 0} (e : ReadFault) (o : Option Y) (f : Y → Option Z) → Fails e o → Fails e (o >>= f)
fails_on faults.Memory o f fails = tt
fails_on faults.Shape o f fails = ap (λ q. q >>= f) fails

-- a change with the word `attach` is a category
pub attach_is : (word : Text) (ds : List Data) → bytes_eq word (codes "attach") ≡ true → worded_change_of word ds ≡ attach_of ds
unfolding worded_change_of
attach_is word ds e = rw ((bytes_eq-Decides word (codes "attach")).0 e) refl

-- if the receiver and the selector of a send were read, the rest decides
pub send_item_left : (d : Data) (vs : List Tree) (v : Tree) (receiver : Constant) (selector : Text) → Some (map view vs) ≡ list_at d → 2 ≤ length vs → v ≡ get_or vs 0 v → Some receiver ≡ constant_of (view v) → Some selector ≡ value_of as_str 1 (map view vs)
    → send_item_of d ≡ (each constant_of (map view (take (length vs - 2) (drop 2 vs))) >>= λ args. Some (send_item receiver selector args))
unfolding send_item_of
send_item_left d vs v receiver selector listed two there is selected =
    let rest : take (length vs - 2) (drop 2 vs) ≡ drop 2 vs = take_all (length vs - 2) (drop 2 vs) (omega (arith, length-drop 2 vs)) in
    rw (rest, ← listed, value_there vs 0 v (omega arith) there, ← is, ← selected, drop-map view 2 vs) refl
