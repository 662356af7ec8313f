-- A flush leaves its class reference without a live array, and gives none to another.
use Rattle.std.proofs.Common.{◌≡◌, ℕ, zero, suc, List, [], ◌∷◌, Bool, true, false, cond, None, refl, ap, ◌∙◌}
use Rattle.std.specs.Prelude.{nat_lt, slice_index, slice_set}
use Rattle.msg_names.specs.declared.value.ClassRef.{ClassRef}
use Rattle.msg_model.specs.State.{Layout}
use Rattle.msg_cache.specs.Keeping.{header}
use Rattle.msg_cache.specs.Layout.{header_at}
use Rattle.msg_cache.specs.Plays.{flushed}
use Rattle.msg_cache.specs.Rule.{named, live_in}
use Rattle.msg_cache.specs.declared.view.KeeperView.{KeeperView}

-- a word that is set to 0 is 0
set-zero : (words : List ℕ) (i : ℕ) → slice_index (slice_set words i 0) i ≡ 0
set-zero [] i = refl
set-zero (x ∷ xs) zero = refl
set-zero (x ∷ xs) (suc i) = set-zero xs i

-- and a word that is 0 stays so
stays-zero : (words : List ℕ) (i j : ℕ) → slice_index words j ≡ 0 → slice_index (slice_set words i 0) j ≡ 0
stays-zero [] i j e = e
stays-zero (x ∷ xs) zero zero e = refl
stays-zero (x ∷ xs) zero (suc j) e = e
stays-zero (x ∷ xs) (suc i) zero e = e
stays-zero (x ∷ xs) (suc i) (suc j) e = stays-zero xs i j e

none_in : (z : Layout) (words : List ℕ) (c : ClassRef) → slice_index words (header_at c) ≡ 0 → live_in z words c ≡ None
none_in z words c e = step (nat_lt c.class z.classes)
  where
    step : (b : Bool) → cond b (named (slice_index words (header_at c))) None ≡ None
    step true = ap named e
    step false = refl

none_after : (z : Layout) (words : List ℕ) (i : ℕ) (c : ClassRef) → live_in z words c ≡ None → live_in z (slice_set words i 0) c ≡ None
none_after z words i c e = step (nat_lt c.class z.classes) e
  where
    unnamed : (n : ℕ) → named n ≡ None → n ≡ 0
    unnamed zero e = refl
    unnamed (suc n) e = absurd (cc)

    step : (b : Bool) → cond b (named (slice_index words (header_at c))) None ≡ None → cond b (named (slice_index (slice_set words i 0) (header_at c))) None ≡ None
    step true e = ap named (stays-zero words i (header_at c) (unnamed _ e))
    step false e = refl

pub flushed_none : (z : Layout) (b : Bool) (c : ClassRef) (k k' : KeeperView) → k' ≡ cond b (flushed c k) k → (b ≡ false → header k c ≡ 0) → live_in z k'.words c ≡ None
flushed_none z true c k k' same none = ap (λ (j : KeeperView). live_in z j.words c) same ∙ none_in z (slice_set k.words (header_at c) 0) c (set-zero k.words (header_at c))
flushed_none z false c k k' same none = ap (λ (j : KeeperView). live_in z j.words c) same ∙ none_in z k.words c (none refl)

pub flushed_others : (z : Layout) (b : Bool) (c d : ClassRef) (k k' : KeeperView) → k' ≡ cond b (flushed c k) k → live_in z k.words d ≡ None → live_in z k'.words d ≡ None
flushed_others z true c d k k' same none = ap (λ (j : KeeperView). live_in z j.words d) same ∙ none_after z k.words (header_at c) d none
flushed_others z false c d k k' same none = ap (λ (j : KeeperView). live_in z j.words d) same ∙ none
