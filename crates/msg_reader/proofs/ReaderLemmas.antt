-- What a reader recalls, and what it misses.
use Rattle.std.proofs.Common.{◌≡◌, ◌≤◌, ◌+◌, ℕ, List, [], ◌∷◌, ◌++◌, length, Option, Some, None, refl, sym, ap, subst, ◌∙◌, inl, inr, arith, length-append}
use Rattle.std.specs.Prelude.{IfSome, IfNone}
use Rattle.msg_names.specs.ClassRef.{slot_of}
use Rattle.msg_names.specs.Number.{selector_number}
use Rattle.msg_names.specs.declared.value.ClassRef.{ClassRef}
use Rattle.msg_names.specs.declared.value.Selector.{Selector}
use Rattle.msg_tables.specs.History.{History, BeginsWith}
use Rattle.msg_cache.specs.Views.{ArenaView, ProbesFor, layout}
use Rattle.msg_cache.specs.declared.view.SenderView.{SenderView}
use Rattle.msg_cache.specs.Record.{MadeNoProbe}
use Rattle.msg_cache.specs.declared.view.Record.{Record}
use Rattle.msg_reader.specs.Cost.{ProbesOnce, ProbesOnceAtMost, ReadsOneArray}
use Rattle.msg_reader.specs.Kept.{FindsRecalled, FindsUnprobed, HasLoaded, LoadsFirst, LoadsMore, LoadsStamp, MissesAfter}
use Rattle.msg_reader.specs.Notes.{recalled}
use Rattle.msg_reader.specs.declared.notes.Notes.{Notes}

-- a history is as long as what it begins with, or longer
pub as_long : (p h : History) → BeginsWith p h → length h.changes ≤ length p.changes
as_long p h b = omega (arith, ap length b.rest.1, length-append h.changes b.rest.0)

-- what is said of the answer of an option holds of the same answer in other words
pub if_some : {A : Type 0} (P Q : A → Type 0) (o : Option A) → ((a : A) → P a → Q a) → IfSome o P → IfSome o Q
if_some P Q None f t = tt
if_some P Q (Some a) f t = f a t

pub if_none : {A : Type 0} (P Q : Type 0) (o : Option A) → (P → Q) → IfNone o P → IfNone o Q
if_none P Q None f t = f t
if_none P Q (Some a) f t = tt

-- what holds anyway
pub anyway : {A : Type 0} (Q : Type 0) (o : Option A) → Q → IfNone o Q
anyway Q None t = t
anyway Q (Some a) t = tt

module _ (c : ClassRef) (n : ℕ) (v w : SenderView) (loaded : LoadsStamp c n v w) where
  pub stamps_are : w.stamps ≡ (c, n) ∷ v.stamps
  stamps_are = ap (λ (u : SenderView). u.stamps) loaded

  pub has_loaded : HasLoaded c n w
  has_loaded = (v.stamps, stamps_are)

  -- stamps that are loaded later come after it
  pub loads_first : (x : SenderView) → LoadsMore w x → LoadsFirst c n v x
  loads_first x (more, is) = (more, is ∙ ap (λ (l : List (ClassRef × ℕ)). more ++ l) stamps_are)

-- the notes have it
pub found_noted : (was : Notes) (c : ClassRef) (sel n i : ℕ) (v w : SenderView) → LoadsStamp c n v w → Some i ≡ recalled was n (slot_of c) sel → FindsRecalled was was c sel v w (Some i)
found_noted was c sel n i v w loaded noted =
    (n, ([], stamps_are c n v w loaded), subst (λ o. IfSome o (λ j. (Some i ≡ Some j) × LoadsStamp c n v w × (was ≡ was))) noted (refl, loaded, refl))

-- they have nothing
pub found_later : (was is : Notes) (c : ClassRef) (sel n : ℕ) (v u w : SenderView) (found : Option ℕ) → LoadsStamp c n v u → LoadsMore u w → None ≡ recalled was n (slot_of c) sel → FindsRecalled was is c sel v w found
found_later was is c sel n v u w found loaded more none =
    (n, loads_first c n v u loaded w more, subst (λ o. IfSome o (λ j. (found ≡ Some j) × LoadsStamp c n v w × (is ≡ was))) none tt)

-- what is missed after more changes is missed after fewer
pub missed_before : (a : ArenaView) (c : ClassRef) (sel m n : ℕ) (w : SenderView) → m ≤ n → MissesAfter a c sel n w → MissesAfter a c sel m w
missed_before a c sel m n w le (inl probed) = inl probed
missed_before a c sel m n w le (inr (k, has, lt)) = inr (k, has, omega (arith, le, lt))

-- stamps are loaded by several steps
pub loads_more : (u v w : SenderView) → v.stamps ≡ u.stamps → LoadsMore v w → LoadsMore u w
loads_more u v w same (more, is) = (more, is ∙ ap (λ (l : List (ClassRef × ℕ)). more ++ l) same)

-- the notes have it, and nothing is probed; or they have nothing
pub found_unprobed : (was : Notes) (c : ClassRef) (sel n i : ℕ) (u v w : SenderView) → v.stamps ≡ u.stamps → MadeNoProbe u v → LoadsStamp c n v w → Some i ≡ recalled was n (slot_of c) sel → FindsUnprobed was c sel u w (Some i)
found_unprobed was c sel n i u v w same none loaded noted = (
  n,
  ([], stamps_are c n v w loaded ∙ ap (λ (l : List (ClassRef × ℕ)). (c, n) ∷ l) same),
  subst (λ o. IfSome o (λ j. (Some i ≡ Some j) × MadeNoProbe u w)) noted (refl, (ap (λ (x : SenderView). x.count) loaded ∙ none.0, ap (λ (x : SenderView). x.last) loaded ∙ none.1)),
)

-- a probe is one, also where a stamp is loaded after it
pub one_probe : (a : ArenaView) (c : ClassRef) (s : Selector) (v w : SenderView) → ProbesFor a c s v w → ProbesOnce a c (selector_number s) v w
one_probe a c s v w probes = (probes.counted, (probes.class_is, probes.sel_is, probes.no_array, probes.places))

pub still_one : (a : ArenaView) (c k : ClassRef) (sel n : ℕ) (v u w : SenderView) → LoadsStamp k n u w → ProbesOnce a c sel v u → ProbesOnce a c sel v w
still_one a c k sel n v u w loaded (counted, reads) = (
  ap (λ (x : SenderView). x.count) loaded ∙ counted,
  subst (λ (l : Record). ReadsOneArray (layout a) c sel l) (sym (ap (λ (x : SenderView). x.last) loaded)) reads,
)

-- steps before it that aren't probes change nothing of this
pub one_after : (a : ArenaView) (c : ClassRef) (sel : ℕ) (v u w : SenderView) → MadeNoProbe v u → ProbesOnceAtMost a c sel u w → ProbesOnceAtMost a c sel v w
one_after a c sel v u w none (inl same) = inl (same.0 ∙ none.0, same.1 ∙ none.1)
one_after a c sel v u w none (inr (counted, reads)) = inr (counted ∙ ap (λ (n : ℕ). n + 1) none.0, reads)

-- nor does the load of a stamp
pub stamp_is_no_probe : (c : ClassRef) (n : ℕ) (v w : SenderView) → LoadsStamp c n v w → MadeNoProbe v w
stamp_is_no_probe c n v w loaded = (ap (λ (x : SenderView). x.count) loaded, ap (λ (x : SenderView). x.last) loaded)

pub no_probe_yet : (u v w : SenderView) → MadeNoProbe u v → MadeNoProbe v w → MadeNoProbe u w
no_probe_yet u v w first then = (then.0 ∙ first.0, then.1 ∙ first.1)
