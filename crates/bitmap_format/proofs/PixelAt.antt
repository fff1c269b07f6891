-- The bytes of a pixel in an image, and that its colour depends on the colour planes alone.
use Prim.Native.Nat.{ℕ, zero, suc, ◌+◌, ◌*◌, ◌≤◌, ◌<◌}
use mathlib.Core.Bool.{Bool, true, false}
use mathlib.Core.Path.{◌≡◌, refl, sym, ap, ◌∙◌}
use mathlib.Core.Logic.{⊎_elim}
use mathlib.Core.List.{List, ◌++◌}
use native.Mathlib.Nat.{suc-mul, mul_comm, mul-le-mul_right}
use native.Mathlib.Omega.{arith}
use lib.ListN.{length, get_or, take, drop, get_or-append}
use lib.Seq.{get_or-drop, get_or-take, get_or-append-add}
use Rattle.rle_format.specs.Slice.{write_at}
use Rattle.rle_format.proofs.Cases.{le_or_gt}
use Rattle.rle_format.proofs.Slice.{length-write_at, get_or-write_at_before}
use Rattle.bitmap_format.specs.declared.ColorPlaneDefinition.{ColorPlaneDefinition}
use Rattle.bitmap_format.specs.declared.ColorPlaneDefinition.TheVariants.{Argb, AYCoCg}
use Rattle.bitmap_format.specs.Colour.{rgb, aycocg_colour}
use Rattle.bitmap_format.specs.Planes.{PlaneAt, subsampled, chroma_side_of, first_plane, second_plane, third_plane, colour_planes}
use Rattle.bitmap_format.specs.Pixels.{PixelForm, bytes_per_pixel_of, pixel_bytes, alpha_at}
use Rattle.bitmap_format.specs.Sizes.{sample_count_of, sum_over, row_size, image_size_of}
use Rattle.bitmap_format.specs.Image.{sample, chroma_index, colour_at, concat_up_to, image_row, write_rows}
use Rattle.bitmap_format.specs.PictureClaims.{pixel_index}
use Rattle.bitmap_format.proofs.PlanesAlike.{drop-write_at_at}
use Rattle.bitmap_format.proofs.Image.{length-concat_up_to, length-pixel_bytes, length-image_row}

-- ---- a byte of what was written

get_or-write_at_in : (d : List ℕ) (at i : ℕ) (vs : List ℕ) → i < length vs → at + length vs ≤ length d → get_or (write_at d at vs) (at + i) 0 ≡ get_or vs i 0
get_or-write_at_in d at i vs h l =
    sym (get_or-drop at (write_at d at vs) i 0)
    ∙ ap (λ (l : List ℕ). get_or l i 0) (drop-write_at_at d at vs (omega arith))
    ∙ get_or-append vs (drop (at + length vs) d) 0 i h

-- ---- pixels of one length, one after the other

pub get_or_each : (k : ℕ) (f : ℕ → List ℕ) → ((i : ℕ) → length (f i) ≡ k) → (n column i : ℕ) → column < n → i < k
    → get_or (concat_up_to n f) (column * k + i) 0 ≡ get_or (f column) i 0
unfolding concat_up_to
get_or_each k f len zero column i h l = absurd (omega arith)
get_or_each k f len (suc n) column i h l =
    ⊎_elim
    (λ (c : suc column ≤ n).
    let whole : length (concat_up_to n f) ≡ n * k = length-concat_up_to n k f len in
    let most : suc column * k ≤ n * k = mul-le-mul_right k c in
    let step : suc column * k ≡ column * k + k = suc-mul column k in
    get_or-append (concat_up_to n f) (f n) 0 (column * k + i) (omega arith) ∙ get_or_each k f len n column i c l)
    (λ (c : n < suc column).
    let e : column ≡ n = omega arith in
    let place : column * k + i ≡ length (concat_up_to n f) + i = ap (λ (m : ℕ). m * k + i) e ∙ ap (λ (m : ℕ). m + i) (sym (length-concat_up_to n k f len)) in
    ap (λ (m : ℕ). get_or (concat_up_to n f ++ f n) m 0) place ∙ get_or-append-add (concat_up_to n f) (f n) i 0 ∙ ap (λ (m : ℕ). get_or (f m) i 0) (sym e))
    (le_or_gt (suc column) n)

-- ---- rows that are placed

module _ (pitch k : ℕ) (row : ℕ → List ℕ) (len : (r : ℕ) → length (row r) ≡ k) (image : List ℕ) where
  -- each of n rows lies within the image
  abbrev pub RowsFit : ℕ → Type 0
  RowsFit n = (r : ℕ) → r < n → r * pitch + k ≤ length image

  pub length_placed : (n : ℕ) → RowsFit n → length (write_rows pitch row n image) ≡ length image
  unfolding write_rows
  length_placed zero fit = refl
  length_placed (suc n) fit =
      let before : length (write_rows pitch row n image) ≡ length image = length_placed n (λ r h. fit r (omega arith)) in
      let here : n * pitch + k ≤ length image = fit n (omega arith) in
      length-write_at (write_rows pitch row n image) (n * pitch) (row n) (omega (arith, len n)) ∙ before

  -- a byte of a row
  pub placed_row : k ≤ pitch → (n r i : ℕ) → RowsFit n → r < n → i < k → get_or (write_rows pitch row n image) (r * pitch + i) 0 ≡ get_or (row r) i 0
  unfolding write_rows
  placed_row wide zero r i fit h l = absurd (omega arith)
  placed_row wide (suc n) r i fit h l =
      let long : length (write_rows pitch row n image) ≡ length image = length_placed n (λ q c. fit q (omega arith)) in
      let here : n * pitch + k ≤ length image = fit n (omega arith) in
      let before : (c : r < n) → get_or (write_rows pitch row n image) (r * pitch + i) 0 ≡ get_or (row r) i 0 = λ c. placed_row wide n r i (λ q c. fit q (omega arith)) c l in
      ⊎_elim
      (λ (c : suc r ≤ n).
      let most : suc r * pitch ≤ n * pitch = mul-le-mul_right pitch c in
      let step : suc r * pitch ≡ r * pitch + pitch = suc-mul r pitch in
      get_or-write_at_before (write_rows pitch row n image) (n * pitch) (r * pitch + i) (row n) (omega arith) (omega arith) ∙ before c)
      (λ (c : n < suc r).
      let e : r ≡ n = omega arith in
      ap (λ (m : ℕ). get_or (write_at (write_rows pitch row n image) (n * pitch) (row n)) (m * pitch + i) 0) e
      ∙ get_or-write_at_in (write_rows pitch row n image) (n * pitch) i (row n) (omega (arith, len n)) (omega (arith, len n))
      ∙ ap (λ (m : ℕ). get_or (row m) i 0) (sym e))
      (le_or_gt (suc r) n)

-- ---- the colour of a pixel depends on the colour planes alone

pub in_plane : (row column w h : ℕ) → row < h → column < w → row * w + column < w * h
in_plane row column w h r c =
    let below : suc row ≤ h = r in
    let most : suc row * w ≤ h * w = mul-le-mul_right w below in
    omega (arith, suc-mul row w, mul_comm h w)

pub place_below : (s : Bool) (n side : ℕ) → n < side → chroma_index s n < chroma_side_of s side
unfolding chroma_index chroma_side_of
place_below true n side h = omega arith
place_below false n side h = h

agree_at : (upto i : ℕ) (a b : List ℕ) → take upto a ≡ take upto b → i < upto → get_or a i 0 ≡ get_or b i 0
agree_at upto i a b e h = sym (get_or-take upto a i 0 h) ∙ ap (λ (l : List ℕ). get_or l i 0) e ∙ get_or-take upto b i 0 h

sample_agrees : (upto : ℕ) (a b : List ℕ) (p : PlaneAt) (row column : ℕ) → take upto a ≡ take upto b → p.offset + sample_count_of p ≤ upto → row < p.height → column < p.width
    → sample a p row column ≡ sample b p row column
unfolding sample
sample_agrees upto a b p row column e l r c =
    agree_at upto (p.offset + row * p.width + column) a b e (omega (arith, in_plane row column p.width p.height r c))

pub colour_agrees : (d : ColorPlaneDefinition) (flagged : Bool) (w h : ℕ) (a b : List ℕ) (row column : ℕ)
    → take (sum_over sample_count_of (colour_planes (subsampled d) w h)) a ≡ take (sum_over sample_count_of (colour_planes (subsampled d) w h)) b → row < h → column < w
    → colour_at d flagged w h a row column ≡ colour_at d flagged w h b row column
unfolding colour_at sum_over colour_planes first_plane second_plane third_plane chroma_side_of
colour_agrees Argb flagged w h a b row column e r c =
    let upto = sum_over sample_count_of (colour_planes false w h) in
    λ i.
    rgb (sample_agrees upto a b (first_plane w h) row column e (omega arith) r c i) (sample_agrees upto a b (second_plane false w h) row column e (omega arith) r c i)
    (sample_agrees upto a b (third_plane false w h) row column e (omega arith) r c i)
colour_agrees (AYCoCg level s) flagged w h a b row column e r c =
    let upto = sum_over sample_count_of (colour_planes s w h) in
    let cr = place_below s row h r in
    let cc = place_below s column w c in
    λ i.
    aycocg_colour flagged level (sample_agrees upto a b (first_plane w h) row column e (omega arith) r c i)
    (sample_agrees upto a b (second_plane s w h) (chroma_index s row) (chroma_index s column) e (omega arith) cr cc i)
    (sample_agrees upto a b (third_plane s w h) (chroma_index s row) (chroma_index s column) e (omega arith) cr cc i)

-- ---- a byte of a pixel

row_size_is : (form : PixelForm) (w i : ℕ) → i < bytes_per_pixel_of form * w → i < row_size form w
unfolding row_size
row_size_is form w i h = h

-- an image that refusal 6 accepts has room for all rows
rows_fit : (form : PixelForm) (w h room : ℕ) → image_size_of form w h ≤ room → (r : ℕ) → r < h → r * row_size form w + row_size form w ≤ room
unfolding image_size_of row_size
rows_fit form w h room l r c =
    let below : suc r ≤ h = c in
    let most : suc r * (bytes_per_pixel_of form * w) ≤ h * (bytes_per_pixel_of form * w) = mul-le-mul_right (bytes_per_pixel_of form * w) below in
    omega (arith, suc-mul r (bytes_per_pixel_of form * w), mul_comm (bytes_per_pixel_of form * w) h)

pub byte_of_image : (form : PixelForm) (d : ColorPlaneDefinition) (flagged : Bool) (w h : ℕ) (planes alpha image : List ℕ) → image_size_of form w h ≤ length image
    → (row column k : ℕ) → row < h → column < w → k < bytes_per_pixel_of form
    → get_or (write_rows (row_size form w) (image_row form d flagged w h planes alpha) h image) (pixel_index form w row column k) 0
    ≡ get_or (pixel_bytes form (colour_at d flagged w h planes row column) (alpha_at flagged alpha w row column)) k 0
unfolding image_row
byte_of_image form d flagged w h planes alpha image room row column k r c l =
    let below : suc column ≤ w = c in
    let most : suc column * bytes_per_pixel_of form ≤ w * bytes_per_pixel_of form = mul-le-mul_right (bytes_per_pixel_of form) below in
    let within : column * bytes_per_pixel_of form + k < row_size form w = row_size_is form w (column * bytes_per_pixel_of form + k) (omega (arith, suc-mul column (bytes_per_pixel_of form), mul_comm w (bytes_per_pixel_of form))) in
    placed_row (row_size form w) (row_size form w) (image_row form d flagged w h planes alpha) (length-image_row form d flagged w h planes alpha) image (omega arith) h row (column * bytes_per_pixel_of form + k) (rows_fit form w h (length image) room) r within
    ∙ get_or_each (bytes_per_pixel_of form) (λ (column : ℕ). pixel_bytes form (colour_at d flagged w h planes row column) (alpha_at flagged alpha w row column))
    (λ column. length-pixel_bytes form (colour_at d flagged w h planes row column) (alpha_at flagged alpha w row column)) w column k c l
