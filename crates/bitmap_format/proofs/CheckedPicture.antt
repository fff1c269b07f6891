-- What a caller of Picture::new learns from its answer.
use mathlib.Core.Path.{◌≡◌, sym, ap, ◌∙◌, transport}
use mathlib.Core.Bool.{Bool, true, false, ◌||◌}
use Prim.Native.Nat.{ℕ}
use lib.Dec.{ltb, eqb}
use Rattle.std.specs.Prelude.{Result, Ok, Err}
use Rattle.rle_format.specs.Choice.{choose}
use Rattle.rle_format.specs.declared.Refusal.{Refusal}
use Rattle.rle_format.specs.Answer.{Answer, refused, number}
use Rattle.rle_format.specs.Sides.{check_sides_of, AllowedSides}
use Rattle.pixel_format.specs.declared.PixelFormat.{PixelFormat}
use Rattle.bitmap_format.specs.declared.BitmapStreamHeader.{BitmapStreamHeader}
use Rattle.bitmap_format.specs.declared.picture.Picture.{Picture}
use Rattle.bitmap_format.specs.Pixels.{format_to_form}
use Rattle.bitmap_format.specs.Checks.{first_refusal_of}
use Rattle.bitmap_format.specs.Picture.{is_loss_level_invalid_of, check_picture}
use Rattle.bitmap_format.specs.CheckedPicture.{picture_or_number}

-- the parts of a picture, or the number of a refusal
abbrev Parts : Type 0
Parts = Result (PixelFormat × BitmapStreamHeader × ℕ × ℕ) ℕ

module _ (format : PixelFormat) (header : BitmapStreamHeader) (w h : ℕ) (r : Result Picture Refusal)
    (checked : picture_or_number r ≡ check_sides_of (λ (n : ℕ). Err n) w h (choose (is_loss_level_invalid_of header.color_plane_definition) (Err 3) (Ok (format, header, w, h)))) where
  -- a picture that is refused has no other answer
  pub picture_refused : (k : Refusal) → r ≡ Err k → (body work image : ℕ) → check_picture (format_to_form format) header w h body work image ≡ refused (number k)
  unfolding check_picture check_sides_of first_refusal_of
  picture_refused k e body work image = go (eqb w 0 || eqb h 0) (ltb 8192 w || ltb 8192 h) (is_loss_level_invalid_of header.color_plane_definition) _ (ap picture_or_number (sym e) ∙ checked)
    where
      go : (a b l : Bool) (rest : Answer) → ◌≡◌ {A = Parts} (Err (number k)) (choose a (Err 1) (choose b (Err 2) (choose l (Err 3) (Ok (format, header, w, h)))))
          → choose a (refused 1) (choose b (refused 2) (choose l (refused 3) rest)) ≡ refused (number k)
      go true b l rest e = let z : 1 ≡ number k = cc in ap refused z
      go false true l rest e = let z : 2 ≡ number k = cc in ap refused z
      go false false true rest e = let z : 3 ≡ number k = cc in ap refused z
      go false false false rest e = absurd cc

  -- a picture that passes has the parts that were given, so what holds of its own holds of those
  module _ (p : Picture) (e : r ≡ Ok p) where
    same_parts : ◌≡◌ {A = PixelFormat × BitmapStreamHeader × ℕ × ℕ} (p.format, p.header, p.width, p.height) (format, header, w, h)
    unfolding check_sides_of
    same_parts = go (eqb w 0 || eqb h 0) (ltb 8192 w || ltb 8192 h) (is_loss_level_invalid_of header.color_plane_definition) (ap picture_or_number (sym e) ∙ checked)
      where
        go : (a b l : Bool) → ◌≡◌ {A = Parts} (Ok (p.format, p.header, p.width, p.height)) (choose a (Err 1) (choose b (Err 2) (choose l (Err 3) (Ok (format, header, w, h)))))
            → ◌≡◌ {A = PixelFormat × BitmapStreamHeader × ℕ × ℕ} (p.format, p.header, p.width, p.height) (format, header, w, h)
        go true b l e = absurd cc
        go false true l e = absurd cc
        go false false true e = absurd cc
        go false false false e = cc

    pub picture_passed : AllowedSides w h × (is_loss_level_invalid_of header.color_plane_definition ≡ false)
    picture_passed = transport (λ i. AllowedSides (same_parts i).2 (same_parts i).3 × (is_loss_level_invalid_of (same_parts i).1.color_plane_definition ≡ false)) (p.allowed, p.level)
