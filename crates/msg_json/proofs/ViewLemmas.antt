-- A tree's data, level by level, and lists that grow at their end.
use Rattle.std.proofs.Common.{◌≡◌, ℕ, List, [], ◌∷◌, ◌++◌, Bool, true, false, cond, Option, Some, None, Bor, bytes_eq, true≢false, refl, sym, ap, ◌∙◌, rules}
use Rattle.std.proofs.lemmas.Slice.Eq.{bytes_eq-Decides}
use Rattle.json.specs.Token.{Token}
use Rattle.json.specs.Json.{parse_map}
use Rattle.serde_json.specs.Data.{Data, array, object, Items, item, no_items, Members, no_members, put}
use Rattle.serde_json.specs.Find.{get_member}
use Rattle.serde_json.proofs.Views.{get_member-put, get_member-put_other}
use Rattle.msg_json.specs.View.{view, items_view, members_view, with_members, entries}
use Rattle.msg_json.specs.declared.tree.Tree.{Tree, Array, Object, the_lemmas}

pub view-Array : (vs : Bor (List Tree)) → view (Array vs) ≡ array (items_view vs.now)
view-Array vs = search (rules, the_lemmas)

pub view-Object : (ms : Bor (List (Bor (List ℕ) × Tree))) → view (Object ms) ≡ object (members_view ms.now)
view-Object ms = search (rules, the_lemmas)

-- ---- lists

abbrev pub items_before : List Tree → Items → Items
items_before [] rest = rest
items_before (v ∷ vs) rest = item (view v) (items_before vs rest)

pub items_before-no_items : (vs : List Tree) → items_before vs no_items ≡ items_view vs
items_before-no_items [] = refl
items_before-no_items (v ∷ vs) = ap (item (view v)) (items_before-no_items vs)

items_push : (vs : List Tree) (v : Tree) (rest : Items) → items_before vs (item (view v) rest) ≡ items_before (vs ++ v ∷ []) rest
items_push [] v rest = refl
items_push (w ∷ vs) v rest = ap (item (view w)) (items_push vs v rest)

pub one_more_item : (vs : List Tree) (v : Tree) (r : Option (Items × List Token)) → parse_map (items_before vs) (parse_map (item (view v)) r) ≡ parse_map (items_before (vs ++ v ∷ [])) r
one_more_item vs v None = refl
one_more_item vs v (Some p) = ap (λ ds. Some (ds, p.1)) (items_push vs v p.0)

-- ---- members

abbrev pub Entry : Type 0
Entry = Bor (List ℕ) × Tree

with_last : (ms : List Entry) (m : Entry) (found : Members) → with_members found (entries (ms ++ m ∷ [])) ≡ put m.0.now (view m.1) (with_members found (entries ms))
with_last [] m found = refl
with_last (n ∷ ms) m found = with_last ms m (put n.0.now (view n.1) found)

-- one more member
pub members_view-push : (ms : List Entry) (m : Entry) → members_view (ms ++ m ∷ []) ≡ put m.0.now (view m.1) (members_view ms)
members_view-push ms m = with_last ms m no_members

pub put_found : (b : Bool) (k l : List ℕ) (d : Data) (ms : Members) → bytes_eq l k ≡ b → get_member k (put l d ms) ≡ cond b (Some d) (get_member k ms)
put_found true k l d ms e = ap (λ x. get_member x (put l d ms)) (sym ((bytes_eq-Decides l k).0 e)) ∙ get_member-put l d ms
put_found false k l d ms e = get_member-put_other k l d ms (λ same. true≢false (sym ((bytes_eq-Decides l k).1 (sym same)) ∙ e))

-- the last member with a key is found
pub get_member-push : (k : List ℕ) (ms : List Entry) (m : Entry) → get_member k (members_view (ms ++ m ∷ [])) ≡ cond (bytes_eq m.0.now k) (Some (view m.1)) (get_member k (members_view ms))
get_member-push k ms m = ap (get_member k) (members_view-push ms m) ∙ put_found (bytes_eq m.0.now k) k m.0.now (view m.1) (members_view ms) refl
