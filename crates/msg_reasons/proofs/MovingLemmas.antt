-- Courses of a run beside changes.
use Rattle.std.proofs.Common.{◌≡◌, ◌≤◌, ◌<◌, ◌⊎◌, inl, inr, ℕ, suc, List, [], ◌∷◌, ◌++◌, Option, Some, None, drop, length, map, refl, sym, ap, ap₂, subst, false, true, ◌∙◌, arith}
use Rattle.std.proofs.lemmas.Bool.{cases_Bool, cases_lt, le-leb, lt-leb, true≢false}
use Rattle.std.proofs.lemmas.List.{map-append}
use Rattle.std.proofs.lemmas.Option.{same_Some}
use Rattle.std.specs.Prelude.{if◌then◌else◌, get_or}
use Rattle.msg_image.specs.Items.{ItemParts}
use Rattle.msg_image.specs.Plain.{item_parts}
use Rattle.msg_image.specs.declared.change.Item.{Item}
use Rattle.msg_tables.specs.History.{History, BeginsWith, lookup, log}
use Rattle.msg_tables.specs.declared.change.Change.{Change}
use Rattle.msg_tables.proofs.BeginsLemmas.{begins_refl, begins_next, begins_trans}
use Rattle.msg_answers.specs.Serial.{changes_in, history_after, longer_by, outcome_at}
use Rattle.msg_answers.specs.declared.outcome.Outcome.{Outcome}
use Rattle.msg_answers.specs.declared.outcome.Outcome.TheVariants.{Made, Refused, RefusedAt}
use Rattle.msg_eval.specs.declared.reply.Reply.{Reply}
use Rattle.msg_names.specs.Number.{imp_number, selector_number}
use Rattle.msg_names.specs.declared.value.ClassRef.{ClassRef}
use Rattle.msg_names.specs.declared.value.Selector.{Selector}
use Rattle.msg_tables.specs.Stands.{StandsAt}
use Rattle.msg_tables.specs.View.{TablesView}
use Rattle.msg_eval.specs.Finder.{FindsAfter, FindsAt}
use Rattle.msg_eval.specs.Meaning.{Meaning, Ends, Asks}
use Rattle.msg_eval.specs.Points.{EndsBetween}
use Rattle.msg_eval.specs.Step.{Leads}
use Rattle.msg_eval.proofs.PointLemmas.{points_of}
use Rattle.msg_reasons.specs.Beside as beside
use Rattle.msg_reasons.specs.Beside.{Course, Point, after_lookup, moved, next_point, point_of, seen_at, sent}
use Rattle.msg_reasons.specs.Looked.{looked}
use Rattle.msg_reasons.specs.Lookups.{Looked, looked_at}
use Rattle.msg_reasons.specs.Known.{IsFound}
use Rattle.msg_reasons.specs.Moving.{ComesTo, FollowsCourse, IsAt, IsOn, IsOnOrLost, MovesOn, Notes, all_seen, seen_of}
use Rattle.msg_reasons.specs.declared.notes.Lookup.{Lookup}
use Rattle.msg_reasons.specs.declared.moving.Moving.{Moving}
use Rattle.msg_reasons.specs.declared.moving.Seen.{Seen}

-- as many were seen as were noted
pub count_seen : (ks : List Seen) → length (all_seen ks) ≡ length ks
count_seen [] = refl
count_seen (k ∷ ks) = ap suc (count_seen ks)

-- ---- points

abbrev pub point_at : History → List ItemParts → Point
point_at h items = record { history = h; left = items }

-- where a version is reached nothing is made
pub point_reached : (version : ℕ) (h : History) (items : List ItemParts) → version ≤ length h.changes → point_of version h items ≡ point_at h items
point_reached version h [] le = refl
point_reached version h (item ∷ items) le = ap (λ b. if b then point_at h (item ∷ items) else point_of version (history_after h item) items) (le-leb version (length h.changes) le)

-- else the changes of the next item are
pub point_step : (version : ℕ) (h : History) (item : ItemParts) (items : List ItemParts) → length h.changes < version → point_of version h (item ∷ items) ≡ point_of version (history_after h item) items
point_step version h item items lt = ap (λ b. if b then point_at h (item ∷ items) else point_of version (history_after h item) items) (lt-leb version (length h.changes) lt)

longer_begins : (h : History) (xs : List Change) (o : Outcome) → BeginsWith (longer_by h xs o) h
longer_begins h [] Made = begins_refl h
longer_begins h (x ∷ xs) Made = begins_next h (x ∷ xs)
longer_begins h xs (Refused f) = begins_refl h
longer_begins h xs (RefusedAt r) = begins_refl h

-- none goes back
pub point_begins : (version : ℕ) (h : History) (items : List ItemParts) → BeginsWith (point_of version h items).history h
point_begins version h [] = begins_refl h
point_begins version h (item ∷ items) =
    let now = history_after h item in
    let later = begins_trans (point_of version now items).history now h (point_begins version now items) (longer_begins h (changes_in item) (outcome_at h item)) in
    elim (cases_lt (length h.changes) version) [
      | inl lt ↦ subst (λ (p : Point). BeginsWith p.history h) (sym (point_step version h item items lt)) later
      | inr le ↦ subst (λ (p : Point). BeginsWith p.history h) (sym (point_reached version h (item ∷ items) le)) (begins_refl h)
    ]

-- ---- sends

-- a send's lookups are answered at points that rise
pub course_leads : (k : Course) (m : Meaning) → Leads FindsAt m k.history (sent k m).course.history (sent k m).reply
course_leads k (Ends r) = (refl, refl)
course_leads k (Asks c s go) =
    ((moved k).history, lookup (moved k).history c s, (point_begins (get_or k.versions 0 0) k.history k.left, refl), course_leads (after_lookup k c s) (go (lookup (moved k).history c s)))

pub sent_between : (k : Course) (m : Meaning) → EndsBetween k.history (sent k m).course.history m (sent k m).reply
sent_between k m = points_of m k.history (sent k m).course.history (sent k m).reply (course_leads k m)

-- who is lost stays so
lost_stays : (m : Meaning) (q : Option Course) (r : Reply) → Leads FollowsCourse m None q r → q ≡ None
lost_stays (Ends e) q r (is, same) = sym same
lost_stays (Asks c s go) q r (next, i, none, more) = lost_stays (go i) q r (subst (λ (p : Option Course). Leads FollowsCourse (go i) p q r) none more)

None≢Some : (k : Course) → None ≡ Some k → ⊥
None≢Some k e = cc e

-- a send that wasn't lost went along its course
pub followed : (k : Course) (m : Meaning) (q : Course) (r : Reply) → Leads FollowsCourse m (Some k) (Some q) r → (q ≡ (sent k m).course) × (r ≡ (sent k m).reply)
followed k (Ends e) q r (is, same) = (sym (same_Some k q same), sym is)
followed k (Asks c s go) q r (next, i, inl none, more) =
    absurd (None≢Some q (sym (lost_stays (go i) (Some q) r (subst (λ (p : Option Course). Leads FollowsCourse (go i) p (Some q) r) none more))))
followed k (Asks c s go) q r (next, i, inr (goes, found), more) =
    followed (after_lookup k c s) (go (lookup (moved k).history c s)) q r
    (subst (λ (j : ℕ). Leads FollowsCourse (go j) (Some (after_lookup k c s)) (Some q) r) found
    (subst (λ (p : Option Course). Leads FollowsCourse (go i) p (Some q) r) goes more))

-- ---- tables on the way

-- they are where the version is reached
pub comes_reached : (version : ℕ) (old now : Moving) (h g : History) → IsAt now g → point_of version g (map item_parts now.left.now) ≡ point_of version h (map item_parts old.left.now) → version ≤ now.made → ComesTo version old now h
comes_reached version old now h g at same le =
    let reached : point_of version h (map item_parts old.left.now) ≡ point_at g (map item_parts now.left.now) =
    sym same ∙ point_reached version g (map item_parts now.left.now) (omega (arith, le, at.1)) in
    rw reached (at, refl)

-- where no version is left the next lookup is answered where the last was
pub stays_on : (m : Moving) (k : Course) → m.versions.now ≡ [] → IsOn m k → IsOn m (moved k)
stays_on m k none on =
    let versions : k.versions ≡ [] = sym on.versions ∙ none in
    let same : next_point k ≡ point_at k.history k.left = ap (λ (vs : List ℕ). point_of (get_or vs 0 0) k.history k.left) versions ∙ point_reached 0 k.history k.left (omega arith) in
    record {
      stands = subst (λ (p : Point). StandsAt m.tables (log p.history)) (sym same) on.stands;
      made = subst (λ (p : Point). m.made ≡ length p.history.changes) (sym same) on.made;
      left = subst (λ (p : Point). map item_parts m.left.now ≡ p.left) (sym same) on.left;
      versions = none ∙ sym (ap (drop 1) versions);
      seen = on.seen;
    }

-- else it is answered at the version that is the next
pub goes_on : (old now : Moving) (k : Course) (version : ℕ) (later : List ℕ) → old.versions.now ≡ version ∷ later → now.versions.now ≡ later → now.seen.items ≡ old.seen.items → ((h : History) → IsAt old h → ComesTo version old now h) → IsOn old k → IsOn now (moved k)
goes_on old now k version later is rest seen moves on =
    let versions : k.versions ≡ version ∷ later = sym on.versions ∙ is in
    let came = moves k.history (on.stands, on.made) in
    let same : point_of version k.history (map item_parts old.left.now) ≡ next_point k =
    ap (point_of version k.history) on.left ∙ ap (λ (vs : List ℕ). point_of (get_or vs 0 0) k.history k.left) (sym versions) in
    record {
      stands = subst (λ (p : Point). StandsAt now.tables (log p.history)) same came.0.0;
      made = subst (λ (p : Point). now.made ≡ length p.history.changes) same came.0.1;
      left = subst (λ (p : Point). map item_parts now.left.now ≡ p.left) same came.1;
      versions = rest ∙ sym (ap (drop 1) versions);
      seen = ap all_seen seen ∙ on.seen;
    }

one_seen : (l : Lookup) (changes : ℕ) (h : History) (c : ClassRef) (s : ℕ) → looked l ≡ looked_at h c s → changes ≡ length (log h).changes → seen_of (record { lookup = l; changes = changes }) ≡ seen_at h c s
one_seen l changes h c s is count = ap₂ (λ (x : Looked) n. (let k : beside.Seen = record { looked = x; changes = n } in k)) is count

-- a lookup in tables that went on is one more on the course
pub finds_on : (old mid now : Moving) (c : ClassRef) (sel : Selector) (l : Lookup) (changes : ℕ) (p : Option Course) → IsOnOrLost old p
    → (mid.is_whole ≡ true → (old.is_whole ≡ true) × MovesOn old mid) → (now.is_whole ≡ true → (mid.is_whole ≡ true) × Notes (record { lookup = l; changes = changes }) mid now)
    → IsFound mid.tables l → l.class ≡ c → l.sel ≡ sel → changes ≡ mid.tables.change_count → FindsAfter FollowsCourse (IsOnOrLost now) p c (selector_number sel) (imp_number l.imp)
finds_on old mid now c sel l changes None lost goes notes found class of count =
    elim (cases_Bool now.is_whole) [
      | inl whole ↦ absurd (true≢false (sym (goes (notes whole).0).0 ∙ lost))
      | inr broken ↦ record { state = None; there = broken; found = refl }
    ]
finds_on old mid now c sel l changes (Some k) here goes notes found class of count =
    elim (cases_Bool now.is_whole) [
      | inr broken ↦ record { state = None; there = broken; found = inl refl }
      | inl whole ↦
          let noted = (notes whole).1 in
          let on : IsOn mid (moved k) = (goes (notes whole).0).1 k here.1 in
          let h = (moved k).history in
          let is : looked l ≡ looked_at h c (selector_number sel) = found.meaning h on.stands ∙ ap₂ (λ (d : ClassRef) (s : Selector). looked_at h d (selector_number s)) class of in
          record {
            state = Some (after_lookup k c (selector_number sel));
            there = (
              whole,
              record {
                stands = subst (λ (t : TablesView). StandsAt t (log h)) (sym noted.tables) on.stands;
                made = noted.made ∙ on.made;
                left = ap (map item_parts) noted.left ∙ on.left;
                versions = noted.versions ∙ on.versions;
                seen = ap all_seen noted.seen ∙ map-append seen_of mid.seen.items (record { lookup = l; changes = changes } ∷ [])
                    ∙ ap₂ (λ (xs : List beside.Seen) (x : beside.Seen). xs ++ x ∷ []) on.seen (one_seen l changes h c (selector_number sel) is (count ∙ on.stands.changes));
              },
            );
            found = inr (refl, ap (λ (x : Looked). x.imp) is);
          }
    ]

-- a send for which there was memory went along its course
pub sent_on : (now : Moving) (k : Course) (m : Meaning) (q : Option Course) (r : Reply) → now.is_whole ≡ true → IsOnOrLost now q → Leads FollowsCourse m (Some k) q r → IsOn now (sent k m).course × (r ≡ (sent k m).reply)
sent_on now k m None r whole lost leads = absurd (true≢false (sym whole ∙ lost))
sent_on now k m (Some q) r whole on leads =
    let (same, replied) = followed k m q r leads in
    (subst (IsOn now) same on.1, replied)

-- a list that hasn't one is empty
pub none_of : (xs : List ℕ) → (0 < length xs → false ≡ true) → xs ≡ []
none_of [] e = refl
none_of (x ∷ xs) e = absurd (true≢false (sym (e (omega arith))))
