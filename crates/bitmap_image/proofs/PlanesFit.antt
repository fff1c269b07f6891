-- The checks before an image is written, one after the other, and what is known once all pass.
use Prim.Native.Nat.{ℕ, ◌≤◌, ◌<◌}
use mathlib.Core.Bool.{Bool, true, false, not, ◌&&◌, ◌||◌}
use mathlib.Core.Path.{◌≡◌, refl, sym, ap, ◌∙◌}
use mathlib.Core.List.{List}
use native.Mathlib.Omega.{arith}
use lib.Dec.{leb, ltb, eqb}
use Rattle.std.specs.Prelude.{Result, Ok, Err}
use lib.ListN.{length}
use borrow.Author.Tests.{le-leb, lt-leb, leb-true}
use Rattle.rle_format.specs.Choice.{choose}
use Rattle.rle_format.specs.Sides.{check_sides_of, AllowedSides}
use Rattle.rle_format.proofs.Sides.{are_sides_allowed, allowed_sides, check_sides_passes, check_sides_refuses}
use Rattle.pixel_format.specs.declared.PixelFormat.{PixelFormat}
use Rattle.bitmap_format.specs.declared.BitmapStreamHeader.{BitmapStreamHeader}
use Rattle.bitmap_format.specs.Pixels.{PixelForm, shown_alpha_size_of}
use Rattle.bitmap_format.specs.Sizes.{colour_planes_size, row_size, image_size_of}
use Rattle.bitmap_format.specs.Image.{image_row, write_rows}
use Rattle.bitmap_format.specs.Picture.{is_loss_level_invalid_of}
use Rattle.bitmap_image.specs.WritePlanes.{planes_fit, write_planes_of}

-- ---- the answer of Picture::new

abbrev Parts : Type 0
Parts = Result (PixelFormat × BitmapStreamHeader × ℕ × ℕ) ℕ

module _ (format : PixelFormat) (header : BitmapStreamHeader) (w h : ℕ) where
  abbrev Checked : Parts → Type 0
  Checked r = ◌≡◌ {A = Parts} r (check_sides_of (λ (n : ℕ). Err n) w h (choose (is_loss_level_invalid_of header.color_plane_definition) (Err 3) (Ok (format, header, w, h))))

  -- a picture that passes has the parts that were given
  pub picture_same : (f : PixelFormat) (k : BitmapStreamHeader) (v u : ℕ) → Checked (Ok (f, k, v, u)) → ◌≡◌ {A = PixelFormat × BitmapStreamHeader × ℕ × ℕ} (f, k, v, u) (format, header, w, h)
  unfolding check_sides_of
  picture_same f k v u e = go (eqb w 0 || eqb h 0) (ltb 8192 w || ltb 8192 h) (is_loss_level_invalid_of header.color_plane_definition) e
    where
      go : (a b l : Bool) → ◌≡◌ {A = Parts} (Ok (f, k, v, u)) (choose a (Err 1) (choose b (Err 2) (choose l (Err 3) (Ok (format, header, w, h)))))
          → ◌≡◌ {A = PixelFormat × BitmapStreamHeader × ℕ × ℕ} (f, k, v, u) (format, header, w, h)
      go true b l e = absurd cc
      go false true l e = absurd cc
      go false false true e = absurd cc
      go false false false e = cc

  -- one that is refused is not written
  pub picture_unfit : (form : PixelForm) (n planes alpha image : ℕ) → Checked (Err n) → planes_fit form header w h planes alpha image ≡ false
  unfolding check_sides_of planes_fit
  picture_unfit form n planes alpha image e =
      go (eqb w 0 || eqb h 0) (ltb 8192 w || ltb 8192 h) (is_loss_level_invalid_of header.color_plane_definition) (leb (image_size_of form w h) image) (leb (colour_planes_size header w h) planes)
      (leb (shown_alpha_size_of form header.use_alpha w h) alpha) e
    where
      go : (a b l i p s : Bool) → ◌≡◌ {A = Parts} (Err n) (choose a (Err 1) (choose b (Err 2) (choose l (Err 3) (Ok (format, header, w, h))))) → choose a false (choose b false (i && (p && (s && not l)))) ≡ false
      go true b l i p s e = refl
      go false true l i p s e = refl
      go false false true false p s e = refl
      go false false true true false s e = refl
      go false false true true true false e = refl
      go false false true true true true e = refl
      go false false false i p s e = absurd cc

-- ---- the checks, one after the other

module _ (form : PixelForm) (header : BitmapStreamHeader) (w h planes alpha image : ℕ) where
  abbrev valid : Bool
  valid = not (is_loss_level_invalid_of header.color_plane_definition)

  pub unfit_sides : are_sides_allowed w h ≡ false → false ≡ planes_fit form header w h planes alpha image
  unfolding planes_fit
  unfit_sides e = sym (check_sides_refuses false w h _ e)

  module _ (s : AllowedSides w h) where
    inside : planes_fit form header w h planes alpha image
        ≡ (leb (image_size_of form w h) image && (leb (colour_planes_size header w h) planes && (leb (shown_alpha_size_of form header.use_alpha w h) alpha && valid)))
    unfolding planes_fit
    inside = check_sides_passes (λ (_ : ℕ). false) w h _ s

    pub unfit_image : image < image_size_of form w h → false ≡ planes_fit form header w h planes alpha image
    unfit_image l = sym (inside ∙ simp (lt-leb (image_size_of form w h) image l))

    module _ (li : image_size_of form w h ≤ image) where
      pub unfit_planes : planes < colour_planes_size header w h → false ≡ planes_fit form header w h planes alpha image
      unfit_planes l = sym (inside ∙ simp (le-leb (image_size_of form w h) image li, lt-leb (colour_planes_size header w h) planes l))

-- ---- the sizes of a picture that passed

-- a size as a call gave it
pub size_is : (w h : ℕ) (sides : AllowedSides w h) (value size : ℕ) → value ≡ check_sides_of (λ (_ : ℕ). 0) w h size → value ≡ size
size_is w h sides value size e = e ∙ check_sides_passes (λ (_ : ℕ). 0) w h size sides

module _ (form : PixelForm) (header : BitmapStreamHeader) (w h planes alpha image : ℕ) (sides : AllowedSides w h) (level : is_loss_level_invalid_of header.color_plane_definition ≡ false) where
  fit_by_tests : planes_fit form header w h planes alpha image ≡ (leb (image_size_of form w h) image && (leb (colour_planes_size header w h) planes && leb (shown_alpha_size_of form header.use_alpha w h) alpha))
  unfolding planes_fit
  fit_by_tests =
      check_sides_passes (λ (_ : ℕ). false) w h _ sides
      ∙ ap (λ (t : Bool). leb (image_size_of form w h) image && (leb (colour_planes_size header w h) planes && (leb (shown_alpha_size_of form header.use_alpha w h) alpha && not t))) level
      ∙ ap (λ (t : Bool). leb (image_size_of form w h) image && (leb (colour_planes_size header w h) planes && t)) (and_true (leb (shown_alpha_size_of form header.use_alpha w h) alpha))
    where
      and_true : (a : Bool) → (a && true) ≡ a
      and_true true = refl
      and_true false = refl

  module _ (size : ℕ) (es : size ≡ check_sides_of (λ (_ : ℕ). 0) w h (image_size_of form w h)) where
    tested_image : (t : Bool) → leb size image ≡ t → planes_fit form header w h planes alpha image ≡ (t && (leb (colour_planes_size header w h) planes && leb (shown_alpha_size_of form header.use_alpha w h) alpha))
    tested_image t e =
        fit_by_tests
        ∙ ap (λ (b : Bool). b && (leb (colour_planes_size header w h) planes && leb (shown_alpha_size_of form header.use_alpha w h) alpha)) (ap (λ (k : ℕ). leb k image) (sym (size_is w h sides size _ es)) ∙ e)

    module _ (l : size ≤ image) (colours : ℕ) (ec : colours ≡ check_sides_of (λ (_ : ℕ). 0) w h (colour_planes_size header w h)) where
      tested_planes : (t : Bool) → leb colours planes ≡ t → planes_fit form header w h planes alpha image ≡ (t && leb (shown_alpha_size_of form header.use_alpha w h) alpha)
      tested_planes t e =
          tested_image true (le-leb size image l)
          ∙ ap (λ (b : Bool). b && leb (shown_alpha_size_of form header.use_alpha w h) alpha) (ap (λ (k : ℕ). leb k planes) (sym (size_is w h sides colours _ ec)) ∙ e)

      pub fit_by_alpha : leb colours planes ≡ true → (shown : ℕ) → shown ≡ check_sides_of (λ (_ : ℕ). 0) w h (shown_alpha_size_of form header.use_alpha w h)
          → planes_fit form header w h planes alpha image ≡ leb shown alpha
      fit_by_alpha e shown ea = tested_planes true e ∙ ap (λ (k : ℕ). leb k alpha) (sym (size_is w h sides shown _ ea))

-- ---- what is known once all pass

pub record PlanesKnown (form : PixelForm) (header : BitmapStreamHeader) (w h planes alpha image : ℕ) : Type 0 where
  pub sides : AllowedSides w h
  pub image_room : image_size_of form w h ≤ image
  pub planes_room : colour_planes_size header w h ≤ planes
  pub alpha_room : shown_alpha_size_of form header.use_alpha w h ≤ alpha
  pub loss : is_loss_level_invalid_of header.color_plane_definition ≡ false

module _ (form : PixelForm) (header : BitmapStreamHeader) (w h planes alpha image : ℕ) where
  pub planes_known : planes_fit form header w h planes alpha image ≡ true → PlanesKnown form header w h planes alpha image
  planes_known e = by_sides (are_sides_allowed w h) refl
    where
      by_checks : AllowedSides w h → (a b c d : Bool) → leb (image_size_of form w h) image ≡ a → leb (colour_planes_size header w h) planes ≡ b
          → leb (shown_alpha_size_of form header.use_alpha w h) alpha ≡ c → is_loss_level_invalid_of header.color_plane_definition ≡ d → (a && (b && (c && not d))) ≡ true
          → PlanesKnown form header w h planes alpha image
      by_checks s false b c d ea eb ec ed e = let z : ◌≡◌ {A = ℕ} 0 1 = cc in absurd (omega arith)
      by_checks s true false c d ea eb ec ed e = let z : ◌≡◌ {A = ℕ} 0 1 = cc in absurd (omega arith)
      by_checks s true true false d ea eb ec ed e = let z : ◌≡◌ {A = ℕ} 0 1 = cc in absurd (omega arith)
      by_checks s true true true true ea eb ec ed e = let z : ◌≡◌ {A = ℕ} 0 1 = cc in absurd (omega arith)
      by_checks s true true true false ea eb ec ed e = record {
        sides = s;
        image_room = leb-true (image_size_of form w h) image ea;
        planes_room = leb-true (colour_planes_size header w h) planes eb;
        alpha_room = leb-true (shown_alpha_size_of form header.use_alpha w h) alpha ec;
        loss = ed;
      }

      by_sides : (t : Bool) → are_sides_allowed w h ≡ t → PlanesKnown form header w h planes alpha image
      by_sides false et =
          let no : true ≡ false = sym e ∙ sym (unfit_sides form header w h planes alpha image et) in
          let z : ◌≡◌ {A = ℕ} 0 1 = cc in
          absurd (omega arith)
      by_sides true et =
          let s = allowed_sides w h et in
          by_checks s (leb (image_size_of form w h) image) (leb (colour_planes_size header w h) planes) (leb (shown_alpha_size_of form header.use_alpha w h) alpha) (is_loss_level_invalid_of header.color_plane_definition) refl refl refl refl
          (sym (inside form header w h planes alpha image s) ∙ e)

-- ---- the image

module _ (form : PixelForm) (header : BitmapStreamHeader) (w h : ℕ) (planes alpha image : List ℕ) where
  abbrev rows : List ℕ
  rows = write_rows (row_size form w) (image_row form header.color_plane_definition header.use_alpha w h planes alpha) h image

  pub not_written : planes_fit form header w h (length planes) (length alpha) (length image) ≡ false → image ≡ write_planes_of form header w h planes alpha image
  unfolding write_planes_of
  not_written e = sym (ap (λ (t : Bool). choose t rows image) e)

  pub written : planes_fit form header w h (length planes) (length alpha) (length image) ≡ true → write_planes_of form header w h planes alpha image ≡ rows
  unfolding write_planes_of
  written e = ap (λ (t : Bool). choose t rows image) e

-- a caller that knows the lengths, the sides and the loss level
pub planes_written : (form : PixelForm) (header : BitmapStreamHeader) (w h : ℕ) (planes alpha image : List ℕ) → PlanesKnown form header w h (length planes) (length alpha) (length image)
    → write_planes_of form header w h planes alpha image
    ≡ write_rows (row_size form w) (image_row form header.color_plane_definition header.use_alpha w h planes alpha) h image
planes_written form header w h planes alpha image k =
    written form header w h planes alpha image
    (fit_by_tests form header w h (length planes) (length alpha) (length image) k.sides k.loss
    ∙ simp (le-leb (image_size_of form w h) (length image) k.image_room, le-leb (colour_planes_size header w h) (length planes) k.planes_room, le-leb (shown_alpha_size_of form header.use_alpha w h) (length alpha) k.alpha_room))
