-- A class reference keeps its chain while changes are made, unless its class is one that they make
-- or dispose of.
use Rattle.std.proofs.Common.{◌≡◌, ℕ, List, [], ◌∷◌, ◌++◌, None, true, false, refl, sym, ap, ◌∙◌}
use Rattle.std.specs.Prelude.{◌==◌}
use Rattle.std.proofs.lemmas.List.Folds.{list_any-append}
use Rattle.msg_names.proofs.TestLemmas.{neither, other_number}
use Rattle.msg_names.specs.declared.value.ClassRef.{ClassRef}
use Rattle.msg_tables.specs.Origin.{IsSound}
use Rattle.msg_tables.specs.declared.change.Change.{Change}
use Rattle.msg_tables.specs.declared.change.Change.TheVariants.{Add, Replace, SetImp, Exchange, Attach, AddClass, Remove, DisposeClass}
use Rattle.msg_tables.specs.After.{table_after}
use Rattle.msg_tables.specs.Chain.{is_member, chain_of}
use Rattle.msg_tables.specs.Log.{Log, and_then, table, chain_at}
use Rattle.msg_tables.specs.Refusal.{refusal, AreAccepted, IsLog}
use Rattle.msg_tables.proofs.LogLemmas.{table-and_then}
use Rattle.msg_tables.proofs.PresenceLemmas.{Ordered, ordered, ordered-and_then, may_be_made, disposed, chain_of-gone, chain_of-stays}
use Rattle.msg_tables.specs.Several.{and_all, is_of_one, made_by, made_by_all}

pub chain-and_then : (h : Log) (x : Change) (c : ClassRef) → Ordered (table h).supers → refusal h x ≡ None → is_of_one (made_by x) c ≡ false → chain_at (and_then h x) c ≡ chain_at h c
unfolding chain_at table_after
chain-and_then h (Add d s i) c o accepted other = ap (λ t. chain_of t.supers c) (table-and_then h (Add d s i))
chain-and_then h (Replace d s i) c o accepted other = ap (λ t. chain_of t.supers c) (table-and_then h (Replace d s i))
chain-and_then h (SetImp d s i) c o accepted other = ap (λ t. chain_of t.supers c) (table-and_then h (SetImp d s i))
chain-and_then h (Exchange d s f u) c o accepted other = ap (λ t. chain_of t.supers c) (table-and_then h (Exchange d s f u))
chain-and_then h (Attach k ms cs) c o accepted other = ap (λ t. chain_of t.supers c) (table-and_then h (Attach k ms cs))
chain-and_then h (Remove d s) c o accepted other = ap (λ t. chain_of t.supers c) (table-and_then h (Remove d s))
chain-and_then h (AddClass k d) c o accepted other =
    let may = may_be_made h k d accepted in
    ap (λ t. chain_of t.supers c) (table-and_then h (AddClass k d))
    ∙ chain_of-stays (table h).supers o.order o.is k (record { superclass = d }) may.absent c (other_number c.class k (neither (c.class == k) false other).0)
chain-and_then h (DisposeClass k) c o accepted other =
    ap (λ t. chain_of t.supers c) (table-and_then h (DisposeClass k))
    ∙ chain_of-gone (table h).supers k (disposed h k accepted).leaf c (other_number c.class k (neither (c.class == k) false other).0)

pub apart-both : (xs ys : List ℕ) (c : ClassRef) → is_of_one (xs ++ ys) c ≡ false → (is_of_one xs c ≡ false) × (is_of_one ys c ≡ false)
apart-both xs ys c e = neither (is_of_one xs c) (is_of_one ys c) (sym (list_any-append (λ k. c.class == k) xs ys) ∙ e)

pub chain-all : (h : Log) (xs : List Change) (c : ClassRef) → Ordered (table h).supers → AreAccepted h xs → is_of_one (made_by_all xs) c ≡ false → chain_at (and_all h xs) c ≡ chain_at h c
chain-all h [] c o all other = refl
chain-all h (x ∷ xs) c o all other =
    let parts = apart-both (made_by x) (made_by_all xs) c other in
    chain-all (and_then h x) xs c (ordered-and_then h x o all.0) all.1 parts.1 ∙ chain-and_then h x c o all.0 parts.0

-- what is below a class reference stays there
pub below-all : (h : Log) (xs : List Change) (c p : ClassRef) → IsSound h.origin → IsLog h → AreAccepted h xs → is_of_one (made_by_all xs) c ≡ false → is_member p (chain_at h c) ≡ true → is_member p (chain_at (and_all h xs) c) ≡ true
below-all h xs c p sound is all other e = ap (is_member p) (chain-all h xs c (ordered h sound is) all other) ∙ e
