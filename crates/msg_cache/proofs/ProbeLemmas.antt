-- What the steps of a probe add to its record.
use Rattle.std.proofs.Common.{◌≡◌, ◌≢◌, ℕ, suc, ◌+◌, ◌-◌, ◌<◌, ◌≤◌, List, [], ◌∷◌, ◌++◌, length, take, Some, None, true, refl, sym, ap, ◌∙◌, subst, arith, length-append, ◌⊎◌, ⊎_elim}
use Rattle.std.proofs.Math.Seq.{take-append-add}
use Rattle.msg_names.specs.declared.value.ClassRef.{ClassRef}
use Rattle.msg_buckets.specs.Word.{sel_of, imp_of}
use Rattle.msg_buckets.specs.Probing.{probe_place, ends, end_of, found_at, hit, empty, wrapped}
use Rattle.msg_buckets.proofs.EndLemmas.{same_ends, free_ends, other_passes, found_at-same, found_at-free, read_ends, read_passes}
use Rattle.msg_tables.specs.History.{History}
use Rattle.msg_model.specs.declared.state.Whereabouts.TheVariants.{Holding}
use Rattle.msg_model.specs.State.{Layout, capacity}
use Rattle.msg_model.specs.Steps.{seeing}
use Rattle.msg_cache.specs.declared.view.SenderView.{SenderView}
use Rattle.msg_cache.specs.Layout.{base}
use Rattle.msg_cache.specs.Plays.{Sat, seated, sender_of, headed, read_on, SawHeader, SawWord}
use Rattle.msg_cache.specs.Rule.{named}
use Rattle.msg_cache.specs.Record.{InPlaces, earlier, Hits, Probes, HitsOrMisses, HitsOnce}
use Rattle.msg_tables.proofs.BeginsLemmas.{begins_trans}

in_places_more : (z : Layout) (a s k : ℕ) (reads : List (ℕ × ℕ)) (read : ℕ × ℕ) → InPlaces z a s k reads → read.0 ≡ base z a + probe_place s (capacity z a) (k + length reads) → InPlaces z a s k (reads ++ read ∷ [])
in_places_more z a s k [] read p e = (e ∙ ap (λ (m : ℕ). base z a + probe_place s (capacity z a) m) (omega arith), tt)
in_places_more z a s k (x ∷ xs) read p e = (p.0, in_places_more z a s (suc k) xs read p.1 (e ∙ ap (λ (m : ℕ). base z a + probe_place s (capacity z a) m) (omega arith)))

pub earlier_more : (reads : List (ℕ × ℕ)) (read : ℕ × ℕ) → earlier (reads ++ read ∷ []) ≡ reads
earlier_more reads read =
    let n : length (reads ++ read ∷ []) - 1 ≡ length reads + 0 = omega (arith, length-append reads (read ∷ [])) in
    ap (λ (m : ℕ). take m (reads ++ read ∷ [])) n ∙ take-append-add reads (read ∷ []) 0 ∙ nothing reads
  where
    nothing : (xs : List (ℕ × ℕ)) → xs ++ [] ≡ xs
    nothing [] = refl
    nothing (x ∷ xs) = ap (λ ys. x ∷ ys) (nothing xs)

-- the view after a header load
pub headed_is : {arrays : ℕ} {c : ClassRef} {s n : ℕ} {v : SenderView} {m' : Sat} (t : SawHeader arrays c s n v m') → sender_of m'.0 ≡ headed c s t.front v n
headed_is t = ap (λ (x : Sat). sender_of x.0) t.seat

pub headed_probes : {z : Layout} {arrays : ℕ} {c : ClassRef} {s n : ℕ} {v : SenderView} {m' : Sat} → SawHeader arrays c s n v m' → Probes z c s v (sender_of m'.0)
headed_probes {z} {arrays} {c} {s} {n} {v} {m'} t = subst (Probes z c s v) (sym (headed_is t)) (record {
  number = refl;
  begins = t.begins;
  accepted = t.accepted;
  counted = refl;
  stamps = refl;
  looks = refl;
  class_is = refl;
  sel_is = refl;
  no_array = λ e. refl;
  places = λ a e. (tt, omega arith);
  unended = refl;
})

-- if the word names the array a
pub headed_holding : {arrays : ℕ} {c : ClassRef} {s n : ℕ} {v : SenderView} {m' : Sat} (a : ℕ) → SawHeader arrays c s n v m' → n ≡ suc a
    → ((sender_of m'.0).whereabouts ≡ Holding c a) × ((sender_of m'.0).last.array ≡ Some a) × ((sender_of m'.0).last.reads ≡ [])
headed_holding {arrays} {c} a t e = (
  ap (λ (w : SenderView). w.whereabouts) (headed_is t) ∙ ap (λ (m : ℕ). seeing c (named m)) e,
  ap (λ (w : SenderView). w.last.array) (headed_is t) ∙ ap named e,
  ap (λ (w : SenderView). w.last.reads) (headed_is t),
)

-- the view after a bucket load
pub read_is : {look : History → ClassRef → ℕ → ℕ} {i n : ℕ} {v : SenderView} {m' : Sat} (t : SawWord look i n v m') → sender_of m'.0 ≡ read_on t.front v i n
read_is t = ap (λ (x : Sat). sender_of x.0) t.seat

pub read_seated : {look : History → ClassRef → ℕ → ℕ} {i n : ℕ} {v : SenderView} {m' : Sat} → SawWord look i n v m' → m' ≡ seated (sender_of m'.0)
read_seated t = t.seat ∙ ap seated (sym (read_is t))

pub read_probes : {look : History → ClassRef → ℕ → ℕ} {z : Layout} {c : ClassRef} {s i n : ℕ} {u v : SenderView} {m' : Sat} (a p : ℕ) → SawWord look i n v m' → Probes z c s u v → v.last.array ≡ Some a → end_of s v.last.reads ≡ None
    → length v.last.reads < capacity z a → i ≡ base z a + p → p ≡ probe_place s (capacity z a) (length v.last.reads) → Probes z c s u (sender_of m'.0)
read_probes {look} {z} {c} {s} {i} {n} {u} {v} {m'} a p t q array none lt here at = subst (Probes z c s u) (sym (read_is t)) (record {
  number = q.number;
  begins = begins_trans t.front v.front u.front t.begins q.begins;
  accepted = t.accepted;
  counted = q.counted;
  stamps = q.stamps;
  looks = q.looks;
  class_is = q.class_is;
  sel_is = q.sel_is;
  no_array = λ e. let x : Some a ≡ None = sym array ∙ e in absurd (cc);
  places = λ b e.
      let ab : a ≡ b = let x : Some a ≡ Some b = sym array ∙ e in cc in (
        in_places_more z b s 0 v.last.reads (i, n) (q.places b e).0 (here ∙ ap (λ (x : ℕ). base z a + x) at ∙ ap (λ (x : ℕ). base z x + probe_place s (capacity z x) (length v.last.reads)) ab ∙ ap (λ (m : ℕ). base z b + probe_place s (capacity z b) m) (omega arith)),
        subst (λ (x : ℕ). length (v.last.reads ++ (i, n) ∷ []) ≤ capacity z x) ab (omega (arith, lt, length-append v.last.reads ((i, n) ∷ []))),
      );
  unended = ap (end_of s) (earlier_more v.last.reads (i, n)) ∙ none;
})

-- what the record then says of the end of the probe
module _ {look : History → ClassRef → ℕ → ℕ} {i n : ℕ} {v : SenderView} {m' : Sat} (s : ℕ) (t : SawWord look i n v m') (sel : v.last.sel ≡ s) (none : end_of s v.last.reads ≡ None) where
  reads_are : (sender_of m'.0).last.reads ≡ v.last.reads ++ (i, n) ∷ []
  reads_are = ap (λ (w : SenderView). w.last.reads) (read_is t)

  pub read_passed : n ≢ 0 → sel_of n ≢ s → end_of s (sender_of m'.0).last.reads ≡ None
  read_passed entry other = ap (end_of s) reads_are ∙ read_passes s v.last.reads (i, n) none (other_passes s n entry other)

  ended : ends s n ≡ true → end_of (sender_of m'.0).last.sel (sender_of m'.0).last.reads ≡ Some (i, n)
  ended e = ap (λ (w : SenderView). end_of w.last.sel w.last.reads) (read_is t) ∙ ap (λ x. end_of x (v.last.reads ++ (i, n) ∷ [])) sel ∙ read_ends s v.last.reads (i, n) none e

  pub read_hits : 0 < s → sel_of n ≡ s → Hits (sender_of m'.0).last (imp_of n)
  read_hits positive same = ap found_at (ended (same_ends s n same)) ∙ found_at-same s i n positive same

  pub read_empty : n ≡ 0 → found_at (end_of (sender_of m'.0).last.sel (sender_of m'.0).last.reads) ≡ empty i
  read_empty free = ap found_at (ended (free_ends s n free)) ∙ found_at-free i n free

-- one step of a probe further
module _ {look : History → ClassRef → ℕ → ℕ} {z : Layout} {c : ClassRef} {s n a p b cap step : ℕ} {u v : SenderView} {m' : Sat} (t : SawWord look (b + p) n v m') (q : Probes z c s u v) (array : v.last.array ≡ Some a) (none : end_of s v.last.reads ≡ None)
    (count : length v.last.reads ≡ step) (lt : step < cap) (words : cap ≡ capacity z a) (here : b ≡ base z a) (at : p ≡ probe_place s cap step) where
  pub next_probes : Probes z c s u (sender_of m'.0)
  next_probes =
      read_probes a p t q array none (omega arith) (ap (λ (x : ℕ). x + p) here) (at ∙ ap (λ (x : ℕ × ℕ). probe_place s x.0 x.1) (λ i. (words i, sym count i)))

  pub next_found : sel_of n ≡ s → imp_of n ≡ look (sender_of m'.0).front c s
  next_found same =
      t.hit (same ∙ sym q.sel_is) ∙ ap (λ (x : History × ClassRef × ℕ). look x.0 x.1 x.2) (λ i. (sym (ap (λ (w : SenderView). w.front) (read_is t)) i, q.class_is i, q.sel_is i))

  pub next_count : length (sender_of m'.0).last.reads ≡ step + 1
  next_count = ap (λ (w : SenderView). length w.last.reads) (read_is t) ∙ length-append v.last.reads ((b + p, n) ∷ []) ∙ ap (λ (x : ℕ). x + 1) count

-- A probe of c and s has read k words of the array a. None before the last ends it, and the last is
-- n, in the word i of the table.
pub record Reading (look : History → ClassRef → ℕ → ℕ) (z : Layout) (c : ClassRef) (s a k i n : ℕ) (v w : SenderView) : Type 0 where
  pub probes : Probes z c s v w
  pub holding : w.whereabouts ≡ Holding c a
  pub array : w.last.array ≡ Some a
  pub count : length w.last.reads ≡ k
  pub hit : sel_of n ≡ s → Hits w.last (imp_of n) × (imp_of n ≡ look w.front c s)
  pub free : n ≡ 0 → found_at (end_of w.last.sel w.last.reads) ≡ empty i
  pub passed : n ≢ 0 → sel_of n ≢ s → end_of s w.last.reads ≡ None

-- the next word is read
pub next_reading : {look : History → ClassRef → ℕ → ℕ} {z : Layout} {c : ClassRef} {s n a p b cap k : ℕ} {u v : SenderView} {m' : Sat} → 0 < s → SawWord look (b + p) n v m' → Probes z c s u v → v.whereabouts ≡ Holding c a
    → v.last.array ≡ Some a → end_of s v.last.reads ≡ None → length v.last.reads ≡ k → k < cap → cap ≡ capacity z a → b ≡ base z a → p ≡ probe_place s cap k → Reading look z c s a (k + 1) (b + p) n u (sender_of m'.0)
next_reading {look} {z} {c} {s} {n} {a} {p} {b} {cap} {k} {u} {v} {m'} positive t q holding array none count lt words here at = record {
  probes = next_probes t q array none count lt words here at;
  holding = ap (λ (w : SenderView). w.whereabouts) (read_is t) ∙ holding;
  array = ap (λ (w : SenderView). w.last.array) (read_is t) ∙ array;
  count = next_count t q array none count lt words here at;
  hit = λ same. (read_hits s t q.sel_is none positive same, next_found t q array none count lt words here at same);
  free = read_empty s t q.sel_is none;
  passed = read_passed s t q.sel_is none;
}

pub hits_or_misses : HitsOrMisses
hits_or_misses z c s v w i q hits misses = ⊎_elim
    (λ (none : w.last.array ≡ None).
    let u : wrapped ≡ hit i = sym (ap (λ reads. found_at (end_of w.last.sel reads)) (q.no_array none)) ∙ hits in cc)
    (λ (other : ((p : ℕ) × (found_at (end_of w.last.sel w.last.reads) ≡ empty p)) ⊎ ((a : ℕ) × (w.last.array ≡ Some a) × (length w.last.reads ≡ capacity z a) × (found_at (end_of w.last.sel w.last.reads) ≡ wrapped))). ⊎_elim
    (λ (t : (p : ℕ) × (found_at (end_of w.last.sel w.last.reads) ≡ empty p)). let u : empty t.0 ≡ hit i = sym t.1 ∙ hits in cc)
    (λ (t : (a : ℕ) × (w.last.array ≡ Some a) × (length w.last.reads ≡ capacity z a) × (found_at (end_of w.last.sel w.last.reads) ≡ wrapped)). let u : wrapped ≡ hit i = sym t.3 ∙ hits in cc)
    other)
    misses

pub hits_once : HitsOnce
hits_once l i j hits again = let u : hit i ≡ hit j = sym hits ∙ again in cc
