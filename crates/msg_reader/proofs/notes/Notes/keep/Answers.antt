use Rattle.std.proofs.Common.{rules, ◌≡◌, ◌<◌, true, false, length, get_or, refl, sym, subst, ap₂, ◌∙◌}
use Rattle.std.proofs.lemmas.List.Elements.{All-set}
use Rattle.std.proofs.lemmas.Option.{slice_get-get_or}
use Rattle.msg_names.specs.ClassRef.{slot_of}
use Rattle.msg_names.specs.Number.{selector_number, imp_number}
use Rattle.msg_cache.specs.Views.{layout}
use Rattle.msg_reader.specs.Key.{place_of}
use Rattle.msg_reader.specs.Notes.{IsRecalled, IsStamped, LiesAt, LiesThere, is_free_for}
use Rattle.msg_reader.proofs.NoteLemmas.{recalled_then, notes_keep}
use Rattle.msg_reader.proofs.SpareLemmas.{first-spares, kept-first, kept-second, second-spares, set-elsewhere}
use Rattle.msg_reader.proofs.StampedLemmas.{stamped_by}
use Rattle.msg_reader.proofs.notes.Notes.keep.Goals as goal

-- ---- it comes second

pub returns-then-comes_second-clause-notes : goal.returns-then-comes_second-clause-notes
returns-then-comes_second-clause-notes c = λ h are le found listed.
    let is : IsRecalled h c.args.count (slot_of c.args.class) (selector_number c.args.sel) (imp_number c.args.imp) = recalled_then h c.args.class c.args.count (selector_number c.args.sel) (imp_number c.args.imp) le found listed in
    let told : IsRecalled h c.args.count c.slot-slot.result c.number-named.result c.number.result = rw (c.slot-slot.ensures, c.number-named.ensures.number, c.number.ensures) is in
    let lies : LiesAt c.place-place.result c.of.result = rw (c.place-place.ensures.place) c.of.ensures.placed in
    let kept = notes_keep h c.args.self.now.second c.place-place.result c.of.result are.second (c.of.ensures.note h told) lies in
    record { first = are.first; second = kept }

pub returns-then-comes_second-clause-kept : goal.returns-then-comes_second-clause-kept
returns-then-comes_second-clause-kept c =
    let one = get_or c.args.self.now.first c.place-place.result c.index-self-place.result in
    let two = get_or c.args.self.now.second c.place-place.result c.index-self-place-2.result in
    let inside-first : c.place-place.result < length c.args.self.now.first = search rules in
    let inside-second : c.place-place.result < length c.args.self.now.second = search rules in
    let taken : is_free_for one c.slot-slot.result c.number-named.result ≡ false = c.comes_second.ensures.taken c.if-comes_second.true in
    rw (sym c.slot-slot.ensures, sym c.number-named.ensures.number, sym c.number.ensures) (λ since le short.
    kept-second c.args.self.now c.slot-slot.result c.number-named.result since c.place-place.result c.number.result c.of.result one two short c.place-place.ensures.place (c.of.ensures.kept since le)
    (slice_get-get_or c.args.self.now.first c.place-place.result c.index-self-place.result inside-first) inside-second taken)

pub returns-then-comes_second-clause-others : goal.returns-then-comes_second-clause-others
returns-then-comes_second-clause-others c = λ p ne.
    let at : c.place-place.result ≡ place_of (slot_of c.args.class) (selector_number c.args.sel) = c.place-place.ensures.place ∙ ap₂ place_of c.slot-slot.ensures c.number-named.ensures.number in
    let stays = set-elsewhere c.args.self.now.second c.place-place.result p c.of.result (λ e. ne (e ∙ at)) in
    (refl, stays)

pub returns-then-comes_second-clause-spared : goal.returns-then-comes_second-clause-spared
returns-then-comes_second-clause-spared c =
    let one = get_or c.args.self.now.first c.place-place.result c.index-self-place.result in
    let two = get_or c.args.self.now.second c.place-place.result c.index-self-place-2.result in
    let inside-first : c.place-place.result < length c.args.self.now.first = search rules in
    let inside-second : c.place-place.result < length c.args.self.now.second = search rules in
    let taken : is_free_for one c.slot-slot.result c.number-named.result ≡ false = c.comes_second.ensures.taken c.if-comes_second.true in
    rw (sym c.slot-slot.ensures, sym c.number-named.ensures.number) (λ k there free since next other ne.
    second-spares c.args.self.now c.slot-slot.result c.number-named.result c.number.result c.of.result one two c.place-place.result c.of.ensures.sealed c.of.ensures.imp
    (slice_get-get_or c.args.self.now.first c.place-place.result c.index-self-place.result inside-first) (slice_get-get_or c.args.self.now.second c.place-place.result c.index-self-place-2.result inside-second) inside-second taken k (subst (λ q. LiesThere c.args.self.now q k) (sym c.place-place.ensures.place) there) free since next other ne)

-- the note is of the class reference, and says where its stamp lies
pub returns-then-comes_second-clause-stamped : goal.returns-then-comes_second-clause-stamped
returns-then-comes_second-clause-stamped c = λ are.
    let z = layout c.args.arena.now in
    let made = c.of.ensures in
    let is : IsStamped z c.of.result = stamped_by z c.of.result c.args.class c.slot-slot.result c.number-named.result c.number.result c.requires c.number-named.type_inv c.slot-slot.ensures made.imp made.sealed (made.stamp ∙ c.stamp_offset-stamp.ensures) in
    let put = All-set (IsStamped z) c.args.self.now.second c.place-place.result c.of.result is are.1 in
    (are.0, put)

-- ---- it comes first

pub returns-else-comes_second-clause-notes : goal.returns-else-comes_second-clause-notes
returns-else-comes_second-clause-notes c = λ h are le found listed.
    let is : IsRecalled h c.args.count (slot_of c.args.class) (selector_number c.args.sel) (imp_number c.args.imp) = recalled_then h c.args.class c.args.count (selector_number c.args.sel) (imp_number c.args.imp) le found listed in
    let told : IsRecalled h c.args.count c.slot-slot.result c.number-named.result c.number-else-comes_second.result = rw (c.slot-slot.ensures, c.number-named.ensures.number, c.number-else-comes_second.ensures) is in
    let lies : LiesAt c.place-place.result c.of-else-comes_second.result = rw (c.place-place.ensures.place) c.of-else-comes_second.ensures.placed in
    let kept = notes_keep h c.args.self.now.first c.place-place.result c.of-else-comes_second.result are.first (c.of-else-comes_second.ensures.note h told) lies in
    record { first = kept; second = are.second }

pub returns-else-comes_second-clause-kept : goal.returns-else-comes_second-clause-kept
returns-else-comes_second-clause-kept c =
    let one = get_or c.args.self.now.first c.place-place.result c.index-self-place.result in
    let two = get_or c.args.self.now.second c.place-place.result c.index-self-place-2.result in
    let inside-first : c.place-place.result < length c.args.self.now.first = search rules in
    let inside-second : c.place-place.result < length c.args.self.now.second = search rules in
    let both : is_free_for two c.slot-slot.result c.number-named.result ≡ true → is_free_for one c.slot-slot.result c.number-named.result ≡ true = c.comes_second.ensures.spared c.if-comes_second.false in
    rw (sym c.slot-slot.ensures, sym c.number-named.ensures.number, sym c.number-else-comes_second.ensures) (λ since le short.
    kept-first c.args.self.now c.slot-slot.result c.number-named.result since c.place-place.result c.number-else-comes_second.result c.of-else-comes_second.result one two short c.place-place.ensures.place (c.of-else-comes_second.ensures.kept since le)
    inside-first)

pub returns-else-comes_second-clause-others : goal.returns-else-comes_second-clause-others
returns-else-comes_second-clause-others c = λ p ne.
    let at : c.place-place.result ≡ place_of (slot_of c.args.class) (selector_number c.args.sel) = c.place-place.ensures.place ∙ ap₂ place_of c.slot-slot.ensures c.number-named.ensures.number in
    let stays = set-elsewhere c.args.self.now.first c.place-place.result p c.of-else-comes_second.result (λ e. ne (e ∙ at)) in
    (stays, refl)

pub returns-else-comes_second-clause-spared : goal.returns-else-comes_second-clause-spared
returns-else-comes_second-clause-spared c =
    let one = get_or c.args.self.now.first c.place-place.result c.index-self-place.result in
    let two = get_or c.args.self.now.second c.place-place.result c.index-self-place-2.result in
    let inside-first : c.place-place.result < length c.args.self.now.first = search rules in
    let inside-second : c.place-place.result < length c.args.self.now.second = search rules in
    let both : is_free_for two c.slot-slot.result c.number-named.result ≡ true → is_free_for one c.slot-slot.result c.number-named.result ≡ true = c.comes_second.ensures.spared c.if-comes_second.false in
    rw (sym c.slot-slot.ensures, sym c.number-named.ensures.number) (λ k there free since next other ne.
    first-spares c.args.self.now c.slot-slot.result c.number-named.result c.number-else-comes_second.result c.of-else-comes_second.result one two c.place-place.result c.of-else-comes_second.ensures.sealed c.of-else-comes_second.ensures.imp
    (slice_get-get_or c.args.self.now.first c.place-place.result c.index-self-place.result inside-first) (slice_get-get_or c.args.self.now.second c.place-place.result c.index-self-place-2.result inside-second) inside-first both k (subst (λ q. LiesThere c.args.self.now q k) (sym c.place-place.ensures.place) there) free since next other ne)

-- the note is of the class reference, and says where its stamp lies
pub returns-else-comes_second-clause-stamped : goal.returns-else-comes_second-clause-stamped
returns-else-comes_second-clause-stamped c = λ are.
    let z = layout c.args.arena.now in
    let made = c.of-else-comes_second.ensures in
    let is : IsStamped z c.of-else-comes_second.result = stamped_by z c.of-else-comes_second.result c.args.class c.slot-slot.result c.number-named.result c.number-else-comes_second.result c.requires c.number-named.type_inv c.slot-slot.ensures made.imp made.sealed (made.stamp ∙ c.stamp_offset-stamp.ensures) in
    let put = All-set (IsStamped z) c.args.self.now.first c.place-place.result c.of-else-comes_second.result is are.0 in
    (put, are.1)
