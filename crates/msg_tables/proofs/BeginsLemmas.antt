-- Histories with which others begin.
use Rattle.std.proofs.Common.{◌≡◌, ◌≤◌, ◌++◌, List, [], ◌∷◌, length, refl, sym, ap, ◌∙◌, append_assoc, append-nil, length-append, arith}
use Rattle.msg_tables.specs.declared.change.Change.{Change}
use Rattle.msg_tables.specs.Origin.{OriginView}
use Rattle.msg_tables.specs.History.{History, BeginsWith, and_then}

pub begins_refl : (h : History) → BeginsWith h h
begins_refl h = record { same = refl; rest = ([], sym (append-nil h.changes)) }

pub begins_trans : (h g f : History) → BeginsWith h g → BeginsWith g f → BeginsWith h f
begins_trans h g f p q = record {
  same = p.same ∙ q.same;
  rest = (q.rest.0 ++ p.rest.0, p.rest.1 ∙ ap (λ xs. xs ++ p.rest.0) q.rest.1 ∙ append_assoc f.changes q.rest.0 p.rest.0);
}

pub begins_next : (h : History) (x : List Change) → BeginsWith (and_then h x) h
begins_next h x = record { same = refl; rest = (x ∷ [], refl) }

-- it is no longer
pub begins_length : (h g : History) → BeginsWith h g → length g.changes ≤ length h.changes
begins_length h g p = omega (arith, ap length p.rest.1, length-append g.changes p.rest.0)

-- a history that begins with another and is no longer is that one
pub begins_same : (p h : History) → BeginsWith p h → length p.changes ≡ length h.changes → p ≡ h
begins_same p h b e = at p.origin p.changes b.rest.0 b.same b.rest.1 e
  where
    at : (origin : OriginView) (changes more : List (List Change)) → origin ≡ h.origin → changes ≡ h.changes ++ more → length changes ≡ length h.changes
        → record { origin = origin; changes = changes } ≡ h
    at origin changes [] same is e = rw (same, is, append-nil h.changes) refl
    at origin changes (x ∷ xs) same is e = absurd (omega (arith, length-append h.changes (x ∷ xs), ap length is, e))
