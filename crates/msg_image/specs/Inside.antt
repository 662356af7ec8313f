-- The invariant of images.
use Rattle.std.specs.Prelude.{◌≡◌, map, string_bytes}
use Rattle.msg_image.specs.Opened.{origin_of}
use Rattle.msg_image.specs.Parts.{ClassParts}
use Rattle.msg_image.specs.Plain.{image_parts}
use Rattle.msg_image.specs.Sound.{IsSound}
use Rattle.msg_image.specs.declared.image.Image.TheInside.{Inside}

-- what is kept of an image is a whole one, with what tables are opened of
pub record IsKept (i : Inside) : Type 0 where
  pub sound : IsSound (image_parts i)
  pub listed : map string_bytes i.listed.items ≡ map (λ (c : ClassParts). c.name) (image_parts i).classes
  pub origin : i.origin ≡ origin_of (image_parts i)
