-- A note says where the stamp of its class reference lies.
use Rattle.std.proofs.Common.{◌≡◌, ◌<◌, ◌+◌, ◌*◌, ◌^◌, ℕ, refl, sym, ap, ◌∙◌, arith}
use Rattle.msg_names.proofs.ClassRefLemmas.{slot_of-inside}
use Rattle.msg_names.specs.ClassRef.{slot_of}
use Rattle.msg_names.specs.declared.value.ClassRef.{ClassRef}
use Rattle.msg_model.specs.State.{Layout}
use Rattle.msg_cache.specs.Layout.{stamp_at, stamps}
use Rattle.msg_reader.specs.declared.note.Note.{Note}
use Rattle.msg_reader.specs.declared.notes.Notes.{Notes}
use Rattle.msg_reader.specs.Key.{IsSealOf, key_of, mark_of}
use Rattle.msg_reader.specs.Blank.{IsBlank}
use Rattle.msg_reader.specs.Notes.{AreBlank, AreStamped, IsStamped}
use Rattle.msg_reader.proofs.KeyLemmas.{keys_differ, mark_few}

-- a blank note is of nobody
blank_one : (z : Layout) (n : Note) → IsBlank n → IsStamped z n
blank_one z n none = record {
  tells = λ c sel few seal. absurd (omega (arith, none.seal, seal, (mark_few n.imp).1));
  whole = omega (arith, none.stamp);
  within = omega (arith, none.stamp);
}

pub blank_stamped : (z : Layout) (m : Notes) → AreBlank m → AreStamped z m
blank_stamped z m b = (λ k d inside. blank_one z _ (b.first k d inside), λ k d inside. blank_one z _ (b.second k d inside))

-- of one seal there is one class reference, and the note says where its stamp lies
pub stamped_by : (z : Layout) (n : Note) (c : ClassRef) (slot sel imp : ℕ) → c.class < z.classes → sel < 2 ^ 32 → slot ≡ slot_of c → n.imp ≡ imp → IsSealOf n.seal slot sel imp → n.stamp ≡ 8 * stamp_at z c → IsStamped z n
stamped_by z n c slot sel imp inside few at same seal stamp =
    let own : IsSealOf n.seal (slot_of c) sel n.imp = ap (λ i. n.seal + mark_of i) same ∙ seal ∙ ap (λ s. key_of s sel) at in
    let below : slot_of c < 2 * z.classes = slot_of-inside c z.classes (2 * z.classes) refl inside in
    record {
      tells = λ d next less other.
          let slots : slot_of c ≡ slot_of d = (keys_differ (slot_of c) sel (slot_of d) next few less (sym own ∙ other)).0 in
          stamp ∙ ap (λ m. 8 * (stamps z + m)) slots;
      whole = omega (arith, stamp);
      within = omega (arith, stamp, below);
    }
