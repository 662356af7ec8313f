-- Notes that say what the keeper's view says.
use Rattle.std.proofs.Common.{◌≡◌, ℕ, zero, suc, List, [], ◌∷◌, map, length, replicate, Bool, true, false, cond, not, ◌&&◌, ◌||◌, refl, sym, ap, ◌∙◌, subst}
use Rattle.std.specs.Prelude.{slice_index, slice_set, if◌then◌else◌}
use Rattle.std.specs.List.{range_with_len, filter, list_any}
use Rattle.std.specs.List.Sorted.{IsPermutation}
use Rattle.std.proofs.lemmas.List.{length-map, map-set, get_or-set_other}
use Rattle.std.proofs.Math.ListN.{length-set}
use Rattle.std.proofs.lemmas.List.Elements.{filter_agree}
use Rattle.std.proofs.lemmas.List.Sorted.{IsPermutation-refl}
use Rattle.msg_names.specs.declared.value.ClassRef.{ClassRef}
use Rattle.msg_model.specs.declared.state.Standing.{Standing}
use Rattle.msg_model.specs.declared.state.Standing.TheVariants.{Free, Live, Retired}
use Rattle.msg_model.specs.State.{Layout, size}
use Rattle.msg_model.specs.Steps.{is_free, everyone}
use Rattle.msg_model.specs.View.{standing_at}
use Rattle.msg_cache.specs.declared.view.KeeperView.{KeeperView}
use Rattle.msg_cache.specs.Keeping.{looks, looked_by, is_retired, look_count, newly_free, freed, Collects}
use Rattle.msg_cache.specs.Layout.{header_at}
use Rattle.msg_cache.specs.Uses.{StandingsView, ArrayUse, settled, free, live, waiting, use_of, use_at, is_free_use, is_waiting, newly_freed, retired_in}
use Rattle.msg_cache.specs.Plays.{retire, flushed, installed}
use Rattle.msg_cache.specs.Rule.{named}
use Rattle.msg_cache.proofs.SweepingLemmas.{looks_standings}

-- also past the last array
pub used_at : (l : List Standing) (a : ℕ) → use_at (map use_of l) a ≡ use_of (standing_at l a)
used_at [] a = refl
used_at (s ∷ l) zero = refl
used_at (s ∷ l) (suc a) = used_at l a

pub is_free_used : (s : Standing) → is_free_use (use_of s) ≡ is_free s
is_free_used Free = refl
is_free_used (Live c) = refl
is_free_used (Retired c r aw) = refl

pub free_used : (s : Standing) → use_of s ≡ free → s ≡ Free
free_used Free e = refl
free_used (Live c) e = absurd (cc)
free_used (Retired c r aw) e = absurd (cc)

pub waiting_used : (s : Standing) (aw : List Bool) → use_of s ≡ waiting aw → (c : ClassRef) × (r : ℕ) × (s ≡ Retired c r aw)
waiting_used Free aw e = absurd (cc)
waiting_used (Live c) aw e = absurd (cc)
waiting_used (Retired c r old) aw e = let same : old ≡ aw = cc in (c, r, ap (Retired c r) same)

pub all_used : (n : ℕ) → replicate n free ≡ map use_of (replicate n Free)
all_used zero = refl
all_used (suc n) = ap (λ l. free ∷ l) (all_used n)

-- whether an array is retired
pub waits_used : (l : List Standing) → list_any is_waiting (map use_of l) ≡ list_any is_retired l
waits_used [] = refl
waits_used (s ∷ l) = λ i. one s i || waits_used l i
  where
    one : (s : Standing) → is_waiting (use_of s) ≡ is_retired s
    one Free = refl
    one (Live c) = refl
    one (Retired c r aw) = refl

-- the arrays that became free
pub newly_used : (z : Layout) (k j : KeeperView) → length k.standings ≡ length z.capacities → newly_freed (map use_of k.standings) (map use_of j.standings) ≡ newly_free z k j
newly_used z k j long =
    ap (λ n. filter (λ a. is_free_use (use_at (map use_of j.standings) a) && not (is_free_use (use_at (map use_of k.standings) a))) (range_with_len 0 n)) (length-map k.standings use_of ∙ long)
    ∙ filter_agree (λ a. is_free_use (use_at (map use_of j.standings) a) && not (is_free_use (use_at (map use_of k.standings) a))) (λ a. is_free (standing_at j.standings a) && not (is_free (standing_at k.standings a)))
    (λ a. (λ i. is_free_use (used_at j.standings a i) && not (is_free_use (used_at k.standings a i))) ∙ (λ i. is_free_used (standing_at j.standings a) i && not (is_free_used (standing_at k.standings a) i))) (range_with_len 0 (length z.capacities))

-- the array of a header word is retired
pub retired_used : (c : ClassRef) (header : ℕ) (k : KeeperView) → retired_in header (everyone (length k.given)) (map use_of k.standings) ≡ map use_of (retire c (named header) k)
retired_used c zero k = refl
retired_used c (suc a) k = sym (map-set use_of k.standings a (Retired c (size k.history) (everyone (length k.given))))

pub newly_ready : (z : Layout) (k j : KeeperView) (old new : List ArrayUse) (ready : List ℕ) → length k.standings ≡ length z.capacities → old ≡ map use_of k.standings → new ≡ map use_of j.standings → IsPermutation ready (newly_freed old new)
    → IsPermutation ready (newly_free z k j)
newly_ready z k j old new ready long was now are = subst (IsPermutation ready) ((λ i. newly_freed (was i) (now i)) ∙ newly_used z k j long) are

-- after the looks
pub seen_uses : (n m : ℕ) (outs : List Bool) (k : KeeperView) (new : List ArrayUse) → m ≡ n → new ≡ map use_of (map (looked_by m outs) k.standings) → new ≡ map use_of (looks n outs k).standings
seen_uses n m outs k new same is = is ∙ ap (λ (x : ℕ). map use_of (map (looked_by x outs) k.standings)) same ∙ ap (λ (l : List Standing). map use_of l) (sym (looks_standings n outs k))

pub looks_length : (n : ℕ) (outs : List Bool) (k : KeeperView) → length (map use_of (looks n outs k).standings) ≡ length k.standings
looks_length n outs k = length-map (looks n outs k).standings use_of ∙ ap (λ (l : List Standing). length l) (looks_standings n outs k) ∙ length-map k.standings (looked_by n outs)

-- whether an array is free, by its note
pub free_at : (l : List Standing) (uses : List ArrayUse) (a : ℕ) (b : Bool) → uses ≡ map use_of l → is_free_use (use_at uses a) ≡ b → is_free (standing_at l a) ≡ b
free_at l uses a b are is = sym (is_free_used (standing_at l a)) ∙ ap is_free_use (sym (used_at l a)) ∙ ap (λ n. is_free_use (use_at n a)) (sym are) ∙ is

-- ---- an array of a header word is retired, and a free one installed

pub retired_length : (header : ℕ) (all : List Bool) (uses : List ArrayUse) → length (retired_in header all uses) ≡ length uses
retired_length zero all uses = refl
retired_length (suc a) all uses = length-set uses a (waiting all)

-- a free array is another one
pub retired_free : (header : ℕ) (all : List Bool) (uses : List ArrayUse) (a : ℕ) → use_at uses a ≡ free → ((b : ℕ) → header ≡ suc b → use_at uses b ≡ live) → use_at (retired_in header all uses) a ≡ free
retired_free zero all uses a is alive = is
retired_free (suc b) all uses a is alive = get_or-set_other uses b a (waiting all) free (λ e. absurd (let u : free ≡ live = sym is ∙ ap (use_at uses) e ∙ alive b refl in cc)) ∙ is

module _ (v : StandingsView) (k : KeeperView) (c : ClassRef) (are : v ≡ settled v.senders k.standings) (all : v.senders ≡ length k.given) where
  uses_are : v.uses ≡ map use_of k.standings
  uses_are = ap (λ (x : StandingsView). x.uses) are

  none : v.ready ≡ []
  none = ap (λ (x : StandingsView). x.ready) are

  retired_are : (header : ℕ) → retired_in header (everyone v.senders) v.uses ≡ map use_of (retire c (named header) k)
  retired_are header = (λ i. retired_in header (everyone (all i)) (uses_are i)) ∙ retired_used c header k

  pub flushed_settled : (w : StandingsView) (a : ℕ) → slice_index k.words (header_at c) ≡ suc a → w ≡ record v { uses = slice_set v.uses a (waiting (everyone v.senders)) } → w ≡ settled w.senders (flushed c k).standings
  flushed_settled w a header is =
      let senders = ap (λ (x : StandingsView). x.senders) is in
      let uses = retired_are (suc a) ∙ ap (λ (n : ℕ). map use_of (retire c (named n) k)) (sym header) in
      is ∙ (λ i. record { senders = sym senders i; uses = uses i; ready = none i })

  pub installed_settled : (w x : StandingsView) (header a : ℕ) → header ≡ slice_index k.words (header_at c) → w ≡ record v { uses = retired_in header (everyone v.senders) v.uses } → x ≡ record w { uses = slice_set w.uses a live }
      → x ≡ settled x.senders (installed c a k).standings
  installed_settled w x header a read is next =
      let first = next ∙ (λ i. record (is i) { uses = slice_set (is i).uses a live }) in
      let senders = ap (λ (y : StandingsView). y.senders) first in
      let uses = ap (λ l. slice_set l a live) (retired_are header) ∙ sym (map-set use_of (retire c (named header) k) a (Live c)) ∙ ap (λ (n : ℕ). map use_of (slice_set (retire c (named n) k) a (Live c))) read in
      first ∙ (λ i. record { senders = sym senders i; uses = uses i; ready = none i })

-- ---- if no array is retired

nothing_new : (f : ℕ → Bool) (l : List ℕ) → filter (λ a. f a && not (f a)) l ≡ []
nothing_new f [] = refl
nothing_new f (a ∷ l) = ap (λ t. cond t (a ∷ filter (λ b. f b && not (f b)) l) (filter (λ b. f b && not (f b)) l)) (never (f a)) ∙ nothing_new f l
  where
    never : (b : Bool) → (b && not b) ≡ false
    never true = refl
    never false = refl

-- a collection does nothing
pub collects_nothing : (z : Layout) (n : ℕ) (k : KeeperView) (v : StandingsView) → v ≡ settled n k.standings → list_any is_waiting v.uses ≡ false → Collects z k k 0
collects_nothing z n k v are none =
    let left : list_any is_retired k.standings ≡ false = sym (waits_used k.standings) ∙ ap (λ (x : StandingsView). list_any is_waiting x.uses) (sym are) ∙ none in
    let count : look_count z k ≡ 0 = ap (λ b. if b then z.senders else 0) left in
    let same : freed z [] k ≡ [] = ap (λ (m : ℕ). newly_free z k (looks m [] k)) count ∙ nothing_new (λ a. is_free (standing_at k.standings a)) (range_with_len 0 (length z.capacities)) in record {
      outs = [];
      collects = record { order = []; are_freed = subst (IsPermutation []) (sym same) (IsPermutation-refl []); view = ap (λ (m : ℕ). looks m [] k) (sym count) };
      count = ap (λ (l : List ℕ). length l) (sym same);
    }

-- else it looks at each sender number
pub looks_at_all : (z : Layout) (n : ℕ) (k : KeeperView) (v : StandingsView) → v ≡ settled n k.standings → list_any is_waiting v.uses ≡ true → look_count z k ≡ z.senders
looks_at_all z n k v are some =
    let left : list_any is_retired k.standings ≡ true = sym (waits_used k.standings) ∙ ap (λ (x : StandingsView). list_any is_waiting x.uses) (sym are) ∙ some in
    ap (λ b. if b then z.senders else 0) left
