-- What was not affected since stays the same.
use Rattle.std.proofs.Common.{◌≡◌, ◌≢◌, ℕ, suc, ◌+◌, ◌-◌, List, All, ◌<◌, ◌≤◌, [], ◌∷◌, ◌++◌, length, take, drop, None, true, false, subst, refl, sym, ap, ◌∙◌, arith, append_assoc, append-nil, length-append}
use Rattle.std.proofs.lemmas.List.{take-append-drop, length-take-le}
use Rattle.std.specs.Prelude.{Bool, if◌then◌else◌}
use Rattle.msg_names.specs.ClassRef.{slot_of, same_class}
use Rattle.msg_names.specs.declared.value.ClassRef.{ClassRef}
use Rattle.msg_tables.specs.declared.change.Change.{Change}
use Rattle.msg_tables.specs.Origin.{OriginView, IsSound}
use Rattle.msg_tables.specs.Log as logs
use Rattle.msg_tables.specs.Log.{Log}
use Rattle.msg_tables.specs.History.{History, BeginsWith, and_then, one_by_one, log, lookup}
use Rattle.msg_tables.specs.Refusal.{AreAccepted, IsLog}
use Rattle.msg_tables.specs.Several.{and_all, is_affected_by_all}
use Rattle.msg_tables.proofs.SeveralLemmas.{kept-all}
use Rattle.msg_tables.proofs.HistoryLemmas.{longer, and_all-longer, accepted-all_then}
use Rattle.msg_tables.proofs.LogLemmas.{log-empty}
use Rattle.msg_model.specs.State.{first, size}
use Rattle.msg_model.specs.Stamps.{last_in, last_affected}

-- the log after lists of changes
abbrev pub walk : Log → List (List Change) → Log
walk g [] = g
walk g (xs ∷ more) = walk (and_all g xs) more

pub walk-log : (g : Log) (ls : List (List Change)) → walk g ls ≡ longer g (one_by_one ls)
walk-log g [] = ap (λ (cs : List Change). (let l : Log = record { origin = g.origin; changes = cs } in l)) (sym (append-nil g.changes))
walk-log g (xs ∷ more) =
    walk-log (and_all g xs) more
    ∙ ap (λ (l : Log). longer l (one_by_one more)) (and_all-longer g xs)
    ∙ ap (λ (cs : List Change). (let l : Log = record { origin = g.origin; changes = cs } in l)) (append_assoc g.changes xs (one_by_one more))

pub walk-append : (g : Log) (ys zs : List (List Change)) → walk g (ys ++ zs) ≡ walk (walk g ys) zs
walk-append g [] zs = refl
walk-append g (xs ∷ ys) zs = walk-append (and_all g xs) ys zs

-- the log of a history
pub walk-whole : (h : History) → walk (logs.empty h.origin) h.changes ≡ log h
walk-whole h = walk-log (logs.empty h.origin) h.changes

-- no change of these lists affects the class reference
abbrev pub AreApart : Log → List (List Change) → ClassRef → Type 0
AreApart g [] c = Unit {0}
AreApart g (xs ∷ more) c = (is_affected_by_all g xs c ≡ false) × AreApart (and_all g xs) more c

pub last-append : (l n : ℕ) (g : Log) (ys zs : List (List Change)) (c : ClassRef)
    → last_in l n g (ys ++ zs) c ≡ last_in (last_in l n g ys c) (length ys + n) (walk g ys) zs c
last-append l n g [] zs c = ap (λ k. last_in l k g zs c) (omega arith)
last-append l n g (xs ∷ ys) zs c =
    let b = is_affected_by_all g xs c in
    last-append (if b then suc n else l) (suc n) (and_all g xs) ys zs c
    ∙ ap (λ k. last_in (last_in (if b then suc n else l) (suc n) (and_all g xs) ys c) k (walk (and_all g xs) ys) zs c) (omega arith)

either-between : (b : Bool) (l n : ℕ) → l ≤ n → (l ≤ (if b then suc n else l)) × ((if b then suc n else l) ≤ suc n)
either-between true l n le = (omega (arith, le), omega arith)
either-between false l n le = (omega arith, omega (arith, le))

pub last-least : (l n : ℕ) (g : Log) (ls : List (List Change)) (c : ClassRef) → l ≤ n → l ≤ last_in l n g ls c
last-least l n g [] c le = omega arith
last-least l n g (xs ∷ more) c le =
    let e = either-between (is_affected_by_all g xs c) l n le in
    let r = last-least (if is_affected_by_all g xs c then suc n else l) (suc n) (and_all g xs) more c e.1 in
    omega (arith, e.0, r)

pub last-most : (l n : ℕ) (g : Log) (ls : List (List Change)) (c : ClassRef) → l ≤ n → last_in l n g ls c ≤ length ls + n
last-most l n g [] c le = omega (arith, le)
last-most l n g (xs ∷ more) c le =
    let e = either-between (is_affected_by_all g xs c) l n le in
    let r = last-most (if is_affected_by_all g xs c then suc n else l) (suc n) (and_all g xs) more c e.1 in
    omega (arith, r)

-- if the last change that affects it comes before these lists, none of them does
pub last-apart : (l n : ℕ) (g : Log) (ls : List (List Change)) (c : ClassRef) → l ≤ n → last_in l n g ls c ≤ n → AreApart g ls c
last-apart l n g [] c le few = tt
last-apart l n g (xs ∷ more) c le few = step (is_affected_by_all g xs c) refl few (last-apart l (suc n) (and_all g xs) more c (omega (arith, le)))
  where
    step : (b : Bool) → is_affected_by_all g xs c ≡ b → last_in (if b then suc n else l) (suc n) (and_all g xs) more c ≤ n
        → (last_in l (suc n) (and_all g xs) more c ≤ suc n → AreApart (and_all g xs) more c)
        → (is_affected_by_all g xs c ≡ false) × AreApart (and_all g xs) more c
    step true is few rest = absurd (omega (arith, few, last-least (suc n) (suc n) (and_all g xs) more c (omega arith)))
    step false is few rest = (is, rest (omega (arith, few)))

accepted-split : (g : Log) (xs ys : List Change) → AreAccepted g (xs ++ ys) → AreAccepted g xs × AreAccepted (and_all g xs) ys
accepted-split g [] ys all = (tt, all)
accepted-split g (x ∷ xs) ys all = let r = accepted-split (logs.and_then g x) xs ys all.1 in ((all.0, r.0), r.1)

all-origin : (g : Log) (xs : List Change) → (and_all g xs).origin ≡ g.origin
all-origin g xs = ap (λ (l : Log). l.origin) (and_all-longer g xs)

-- lookups stay the same over lists of changes that don't affect them
pub stays : (g : Log) (ls : List (List Change)) (c : ClassRef) (s : ℕ) → IsSound g.origin → IsLog g → AreAccepted g (one_by_one ls) → AreApart g ls c
    → logs.lookup (walk g ls) c s ≡ logs.lookup g c s
stays g [] c s sound is all apart = refl
stays g (xs ∷ more) c s sound is all apart =
    let parts = accepted-split g xs (one_by_one more) all in
    stays (and_all g xs) more c s (subst IsSound (sym (all-origin g xs)) sound) (accepted-all_then g xs is parts.0) parts.1 apart.1
    ∙ kept-all g xs c s sound is parts.0 apart.0

one_by_one-append : (xs ys : List (List Change)) → one_by_one (xs ++ ys) ≡ one_by_one xs ++ one_by_one ys
one_by_one-append [] ys = refl
one_by_one-append (x ∷ xs) ys = ap (λ zs. x ++ zs) (one_by_one-append xs ys) ∙ sym (append_assoc x (one_by_one xs) (one_by_one ys))

accepted-lists : (g : Log) (ys zs : List (List Change)) → AreAccepted g (one_by_one (ys ++ zs)) → AreAccepted g (one_by_one ys) × AreAccepted (walk g ys) (one_by_one zs)
accepted-lists g [] zs all = (tt, all)
accepted-lists g (xs ∷ ys) zs all =
    let parts = accepted-split g xs (one_by_one (ys ++ zs)) all in
    let rest = accepted-lists (and_all g xs) ys zs parts.1 in
    (accepted-join g xs (one_by_one ys) parts.0 rest.0, rest.1)
  where
    accepted-join : (g : Log) (xs ys : List Change) → AreAccepted g xs → AreAccepted (and_all g xs) ys → AreAccepted g (xs ++ ys)
    accepted-join g [] ys one two = two
    accepted-join g (x ∷ xs) ys one two = (one.0, accepted-join (logs.and_then g x) xs ys one.1 two)

log-walk : (o : OriginView) (ys : List (List Change)) → AreAccepted (logs.empty o) (one_by_one ys) → IsLog (walk (logs.empty o) ys)
unfolding IsLog
log-walk o ys all = subst IsLog (sym (walk-log (logs.empty o) ys)) all

accepted-whole : (h : History) → IsLog (log h) → AreAccepted (logs.empty h.origin) (one_by_one h.changes)
unfolding IsLog
accepted-whole h is = is

-- if the last change that affects it comes among the first lists
split : (o : OriginView) (ys zs : List (List Change)) (c : ClassRef) (s : ℕ) → IsSound o → AreAccepted (logs.empty o) (one_by_one (ys ++ zs))
    → last_in 0 0 (logs.empty o) (ys ++ zs) c ≤ length ys → logs.lookup (walk (logs.empty o) (ys ++ zs)) c s ≡ logs.lookup (walk (logs.empty o) ys) c s
split o ys zs c s sound all few =
    let e = logs.empty o in
    let parts = accepted-lists e ys zs all in
    let l : ℕ = last_in 0 0 e ys c in
    let here : last_in l (length ys + 0) (walk e ys) zs c ≤ length ys + 0 = omega (arith, few, last-append 0 0 e ys zs c) in
    let apart : AreApart (walk e ys) zs c = last-apart l (length ys + 0) (walk e ys) zs c (last-most 0 0 e ys c (omega arith)) here in
    let same : (walk e ys).origin ≡ o = ap (λ (l : Log). l.origin) (walk-log e ys) in
    ap (λ (l : Log). logs.lookup l c s) (walk-append e ys zs)
    ∙ stays (walk e ys) zs c s (subst IsSound (sym same) sound) (log-walk o ys parts.0) parts.1 apart

pub longer-stays : (p h : History) (c : ClassRef) (s : ℕ) → IsSound p.origin → IsLog (log p) → BeginsWith p h → last_affected p c ≤ size h → lookup p c s ≡ lookup h c s
longer-stays p h c s sound is b few = at p.origin p.changes b.rest.0 b.same b.rest.1 sound (accepted-whole p is) few
  where
    at : (o : OriginView) (changes more : List (List Change)) → o ≡ h.origin → changes ≡ h.changes ++ more → IsSound o → AreAccepted (logs.empty o) (one_by_one changes)
        → last_in 0 0 (logs.empty o) changes c ≤ length h.changes → lookup (record { origin = o; changes = changes }) c s ≡ lookup h c s
    at o changes more same is sound all few =
        let sound' : IsSound h.origin = subst IsSound same sound in
        let all' : AreAccepted (logs.empty h.origin) (one_by_one (h.changes ++ more)) = rw (sym same, sym is) all in
        let few' : last_in 0 0 (logs.empty h.origin) (h.changes ++ more) c ≤ length h.changes = rw (sym same, sym is) few in
        rw (same, is)
        (ap (λ (l : Log). logs.lookup l c s) (sym (walk-log (logs.empty h.origin) (h.changes ++ more)))
        ∙ split h.origin h.changes more c s sound' all' few'
        ∙ ap (λ (l : Log). logs.lookup l c s) (walk-log (logs.empty h.origin) h.changes))

pub since : (h : History) (c : ClassRef) (s k : ℕ) → IsSound h.origin → IsLog (log h) → last_affected h c ≤ k → k ≤ size h → lookup (first k h) c s ≡ lookup h c s
since h c s k sound is few le =
    let b : BeginsWith h (first k h) = record { same = refl; rest = (drop k h.changes, sym (take-append-drop k h.changes)) } in
    let n : length (take k h.changes) ≡ k = length-take-le k h.changes le in
    sym (longer-stays h (first k h) c s sound is b (omega (arith, n, few)))

-- ---- one more change

pub last-next : (h : History) (xs : List Change) (c : ClassRef) → last_affected (and_then h xs) c ≡ (if is_affected_by_all (log h) xs c then suc (size h) else last_affected h c)
last-next h xs c =
    let e = logs.empty h.origin in
    last-append 0 0 e h.changes (xs ∷ []) c
    ∙ ap (λ (l : Log). (if is_affected_by_all l xs c then suc (length h.changes + 0) else last_affected h c)) (walk-whole h)
    ∙ ap (λ (n : ℕ). (if is_affected_by_all (log h) xs c then suc n else last_affected h c)) (omega arith)

pub last-reached : (h : History) (c : ClassRef) → last_affected h c ≤ size h
last-reached h c = omega (arith, last-most 0 0 (logs.empty h.origin) h.changes c (omega arith))
