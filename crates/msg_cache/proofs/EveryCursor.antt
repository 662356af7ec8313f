-- Cursors by sender number.
use Rattle.std.proofs.Common.{◌≡◌, ℕ, ◌<◌, ◌≤◌, List, length, replicate, sym, ap, ◌∙◌, arith}
use Rattle.std.specs.Prelude.{slice_index, if◌then◌else◌}
use Rattle.std.proofs.lemmas.Bool.{lt-ltb, le-ltb}
use Rattle.std.proofs.lemmas.List.{ext_get_or, length-replicate, get_or-replicate}
use Rattle.std.proofs.lemmas.List.FromFn.{get_or-map-range_with_len, length-map-range_with_len}
use Rattle.msg_cache.specs.Cursors.{cursor, every_cursor}

pub cursors_length : (own : List ℕ) (known rest : ℕ) → length (every_cursor own known rest) ≡ length own
cursors_length own known rest = length-map-range_with_len (cursor own known rest) 0 (length own)

cursor_at : (own : List ℕ) (known rest n : ℕ) → n < length own → slice_index (every_cursor own known rest) n ≡ cursor own known rest n
cursor_at own known rest n lt = get_or-map-range_with_len (cursor own known rest) 0 (length own) n n 0 lt (omega arith)

pub cursor_own : (own : List ℕ) (known rest n : ℕ) → n < length own → n < known → slice_index (every_cursor own known rest) n ≡ slice_index own n
cursor_own own known rest n lt here = cursor_at own known rest n lt ∙ ap (λ b. if b then slice_index own n else rest) (lt-ltb n known here)

pub cursor_rest : (own : List ℕ) (known rest n : ℕ) → n < length own → known ≤ n → slice_index (every_cursor own known rest) n ≡ rest
cursor_rest own known rest n lt there = cursor_at own known rest n lt ∙ ap (λ b. if b then slice_index own n else rest) (le-ltb n known there)

pub cursors_first : (n : ℕ) → every_cursor (replicate n 0) 0 0 ≡ replicate n 0
cursors_first n =
    let zeros : List ℕ = replicate n 0 in
    let count : length zeros ≡ n = length-replicate n 0 in
    let long = cursors_length zeros 0 0 in
    ext_get_or 0 (every_cursor zeros 0 0) zeros long
    (λ m lt. let here : m < n = omega (arith, long, count) in cursor_rest zeros 0 0 m (omega (arith, count)) (omega arith) ∙ sym (get_or-replicate n m 0 0 here))
