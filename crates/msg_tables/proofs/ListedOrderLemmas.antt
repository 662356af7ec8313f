-- The listed classes in their order, when an image is opened.
use Rattle.std.proofs.Common.{◌≡◌, ◌<◌, ◌+◌, ◌++◌, ℕ, zero, suc, List, [], ◌∷◌, length, map, Option, Some, None, true, slice_get, refl, sym, ap, ap₂, ◌∙◌, length-append, arith}
use Rattle.std.specs.Prelude.{replicate, is_some}
use Rattle.std.proofs.lemmas.List.{length-map, length-replicate}
use Rattle.std.proofs.lemmas.Option.{same_Some}
use Rattle.msg_order.specs.Order as classes
use Rattle.msg_order.specs.Order.{IsClassOrder}
use Rattle.msg_order.specs.Superclasses.{super_of}
use Rattle.msg_tables.specs.Origin.{OriginView, class_total}
use Rattle.msg_tables.specs.declared.presence.Presence.{Presence}
use Rattle.msg_tables.specs.After.{opened_supers}
use Rattle.msg_tables.specs.Chain.{presence_of, is_present}
use Rattle.msg_tables.specs.Order.{StandsBefore, IsOrder, present_count}

abbrev listed : Option ℕ → Option Presence
listed d = Some (record { superclass = d })

-- no class that may be made is present
none_made : (n k : ℕ) → is_present (replicate n None) k ≡ true → k < 0
none_made zero k e = cc
none_made (suc n) zero e = cc
none_made (suc n) (suc k) e = let impossible = none_made n k e in omega (arith, impossible)

-- the listed classes are present, and no others
opened-present : (cs : List (Option ℕ)) (n k : ℕ) → k < length cs → is_present (map listed cs ++ replicate n None) k ≡ true
opened-present [] n k inside = absurd (omega (arith, inside))
opened-present (c ∷ cs) n zero inside = refl
opened-present (c ∷ cs) n (suc k) inside = opened-present cs n k (omega (arith, inside))

opened-listed : (cs : List (Option ℕ)) (n k : ℕ) → is_present (map listed cs ++ replicate n None) k ≡ true → k < length cs
opened-listed [] n k e = none_made n k e
opened-listed (c ∷ cs) n zero e = omega arith
opened-listed (c ∷ cs) n (suc k) e = let rest = opened-listed cs n k e in omega (arith, rest)

opened-presence : (cs : List (Option ℕ)) (n k : ℕ) (p : Presence) → presence_of (map listed cs ++ replicate n None) k ≡ Some p → super_of cs k ≡ p.superclass
opened-presence [] n k p e = let gone = none_made n k (ap is_some e) in absurd (omega (arith, gone))
opened-presence (c ∷ cs) n zero p e = ap (λ (x : Presence). x.superclass) (same_Some (record { superclass = c }) p e)
opened-presence (c ∷ cs) n (suc k) p e = opened-presence cs n k p e

opened-count : (cs : List (Option ℕ)) (n : ℕ) → present_count (map listed cs ++ replicate n None) ≡ length cs
opened-count [] zero = refl
opened-count [] (suc n) = let rest = opened-count [] n in omega (arith, rest)
opened-count (c ∷ cs) n = let rest = opened-count cs n in omega (arith, rest)

stands : (order : List ℕ) (place k : ℕ) → classes.StandsBefore order place k → StandsBefore order place k
stands order place k s = record { at = s.at; before = s.before; is = s.is }

-- the listed classes in an order in which each comes after its superclass
pub order-listed : (o : OriginView) (order : List ℕ) → IsClassOrder o.superclasses order → IsOrder (opened_supers o) order
order-listed o order is = record {
  present = λ place k at. opened-present o.superclasses o.made k (is.listed place k at);
  above = λ place k d p at of up. stands order place d (is.above place k d at (opened-presence o.superclasses o.made k p of ∙ up));
  whole = λ k there. stands order (length order) k (is.whole k (opened-listed o.superclasses o.made k there));
  count = is.count ∙ sym (opened-count o.superclasses o.made);
}

-- the classes at the opening, one by one
opened-at : (cs : List (Option ℕ)) (n k : ℕ) (o : Option ℕ) → slice_get cs k ≡ Some o → slice_get (map listed cs ++ replicate n None) k ≡ Some (Some (record { superclass = o }))
opened-at [] n k o e = cc
opened-at (c ∷ cs) n zero o e = ap (λ s. Some (Some (record { superclass = s }))) (same_Some c o e)
opened-at (c ∷ cs) n (suc k) o e = opened-at cs n k o e

abbrev absent : ℕ → List (Option Presence)
absent n = replicate n None

pub opened-class : (o : OriginView) (k : ℕ) (d : Option ℕ) → slice_get o.superclasses k ≡ Some d → slice_get (opened_supers o) k ≡ Some (Some (record { superclass = d }))
opened-class o k d e = opened-at o.superclasses o.made k d e

pub length-opened : (o : OriginView) → length (opened_supers o) ≡ class_total o
length-opened o = length-append (map listed o.superclasses) (replicate o.made None) ∙ ap₂ (λ m n. m + n) (length-map o.superclasses listed) (length-replicate o.made None)

-- a listed class is present when the tables are opened
pub opened-is_present : (o : OriginView) (k : ℕ) → k < length o.superclasses → is_present (opened_supers o) k ≡ true
opened-is_present o k inside = opened-present o.superclasses o.made k inside
