-- The rows of a plane, as the packer's outer loop goes through them.
use Rattle.std.proofs.Common.{Result, ◌≡◌, ℕ, zero, suc, ◌+◌, ◌-◌, ◌*◌, ◌<◌, ◌≤◌, List, [], ◌++◌, length, take, drop, sym, refl, ap, ◌∙◌, append_assoc, append-nil, arith, length-drop, length-take-le, take_at, take_all}
use Rattle.rle_format.specs.declared.Refusal.{Refusal}
use Rattle.rle_format.specs.Slice.{overwrite}
use Rattle.rle_format.specs.Delta.{delta_code, zip_with}
use Rattle.rle_format.specs.Segment.{Segment}
use Rattle.rle_format.specs.Pack.{row_segments, row_at, codes_at, plane_segments}
use Rattle.rle_format.proofs.Slice.{overwrite_all}
use Rattle.pixel_format.specs.declared.Layout.{Layout}
use Rattle.rle_encoder.specs.CodeRow.{code_row_of, HasRowAbove, KeepsRowAbove}
use Rattle.rle_format.specs.Written.{answer_at, slice_at}
use Rattle.rle_format.proofs.WriteLoop.{Wrote}

-- ---- the first rows, and rows from row r on

-- the segments of k rows from row r on
unfoldable pub segments_from_row : (width : ℕ) (samples : List ℕ) (r k : ℕ) → List Segment
segments_from_row width samples r zero = []
segments_from_row width samples r (suc k) = row_segments (codes_at width samples r) ++ segments_from_row width samples (suc r) k

module _ (width : ℕ) (samples : List ℕ) where
  plane_segments_split : (r k : ℕ) → plane_segments width (r + k) samples ≡ plane_segments width r samples ++ segments_from_row width samples r k
  unfolding segments_from_row plane_segments
  plane_segments_split r zero = let e : r + 0 ≡ r = omega arith in rw e (sym (append-nil (plane_segments width r samples)))
  plane_segments_split r (suc k) =
      let e : r + suc k ≡ suc r + k = omega arith in
      ap (λ (n : ℕ). plane_segments width n samples) e
      ∙ plane_segments_split (suc r) k
      ∙ append_assoc (plane_segments width r samples) (row_segments (codes_at width samples r)) (segments_from_row width samples (suc r) k)

  pub segments_from_row_0 : (height : ℕ) → plane_segments width height samples ≡ segments_from_row width samples 0 (height - 0)
  unfolding plane_segments
  segments_from_row_0 height =
      let e : height ≡ 0 + height = omega arith in
      let f : height ≡ height - 0 = omega arith in
      ap (λ (n : ℕ). plane_segments width n samples) e ∙ plane_segments_split 0 height ∙ ap (segments_from_row width samples 0) f

  pub segments_from_row_step : (r height : ℕ) → r < height
      → segments_from_row width samples r (height - r) ≡ row_segments (codes_at width samples r) ++ segments_from_row width samples (r + 1) (height - (r + 1))
  unfolding segments_from_row
  segments_from_row_step r height h =
      let n : height - r ≡ suc (height - suc r) = omega arith in
      let o : r + 1 ≡ suc r = omega arith in
      rw (o, n)

  pub segments_from_row_end : (r k : ℕ) → k ≡ 0 → segments_from_row width samples r k ≡ []
  unfolding segments_from_row
  segments_from_row_end r zero e = refl
  segments_from_row_end r (suc k) e = absurd (omega arith)

-- ---- a row, read and coded

length_row_at : (width : ℕ) (samples : List ℕ) (r : ℕ) → r * width + width ≤ length samples → length (row_at width samples r) ≡ width
unfolding row_at
length_row_at width samples r h = length-take-le width (drop (r * width) samples) (omega (arith, length-drop (r * width) samples))

-- samples that fill the slice that they are read into
read_row_lem : (width : ℕ) (samples : List ℕ) (r : ℕ) (d got : List ℕ) → length d ≡ width → r * width + width ≤ length samples
    → got ≡ overwrite d (take (length d) (drop (r * width) samples)) → got ≡ row_at width samples r
unfolding row_at
read_row_lem width samples r d got e h is =
    let row : List ℕ = row_at width samples r in
    is ∙ ap (λ (n : ℕ). overwrite d (take n (drop (r * width) samples))) e ∙ overwrite_all d row (omega (arith, length_row_at width samples r h))

-- where an array has the samples of the row above, a row's coded values are those of the plane's row
code_row-codes_at : (width : ℕ) (samples : List ℕ) (r : ℕ) (above : List ℕ) → HasRowAbove width samples r above
    → code_row_of r (take width above) (row_at width samples r) ≡ codes_at width samples r
unfolding codes_at
code_row-codes_at width samples zero above h = refl
code_row-codes_at width samples (suc r) above h =
    let e : suc r - 1 ≡ r = omega arith in
    ap (λ (l : List ℕ). zip_with delta_code l (row_at width samples (suc r))) (h (omega arith) ∙ ap (row_at width samples) e)

-- two arrays after row r was read into the one, and coded, and kept in the other
pub row_coded : (width : ℕ) (samples : List ℕ) (r : ℕ) (above codes got new sampled : List ℕ) → length above ≡ width → length codes ≡ width
    → r * width + width ≤ length samples → HasRowAbove width samples r above
    → got ≡ overwrite codes (take (length codes) (drop (r * width) samples)) → new ≡ code_row_of r above got → sampled ≡ got
    → (new ≡ codes_at width samples r) × HasRowAbove width samples (r + 1) sampled
row_coded width samples r above codes got new sampled na nc h has eg en es =
    let long = length_row_at width samples r h in
    let read : got ≡ row_at width samples r = read_row_lem width samples r codes got nc h eg in
    let up : take width above ≡ above = take_all width above (omega arith) in
    let last : r ≡ r + 1 - 1 = omega arith in
    let kept : take width sampled ≡ sampled = take_all width sampled (omega (arith, ap length (es ∙ read))) in (
      en ∙ (λ i. code_row_of r (sym up i) (read i)) ∙ code_row-codes_at width samples r above has,
      λ _. kept ∙ es ∙ read ∙ ap (row_at width samples) last,
    )

-- the row above stands in the array whose first bytes were lent
pub keeps_row_above : (layout : Layout) (width : ℕ) (samples : List ℕ) (r : ℕ) (above rest : List ℕ) → length above ≡ width → KeepsRowAbove layout width samples r above
    → KeepsRowAbove layout width samples r (above ++ rest)
keeps_row_above layout width samples r above rest n keeps apart some = take_at above rest width n ∙ sym (take_all width above (omega arith)) ∙ keeps apart some

-- the row that is packed is the row of the plane
pub row_written : (width : ℕ) (samples : List ℕ) (r : ℕ) (codes rest : List ℕ) → length codes ≡ width → codes ≡ codes_at width samples r → (d now : List ℕ) (to : ℕ) (answer : Result ℕ Refusal)
    → Wrote (row_segments (take width (codes ++ rest))) d now to answer → Wrote (row_segments (codes_at width samples r)) d now to answer
row_written width samples r codes rest n row d now to answer w =
    let whole : take width (codes ++ rest) ≡ codes_at width samples r = take_at codes rest width n ∙ row in
    (w.0 ∙ ap (λ (l : List ℕ). answer_at (row_segments l) d to) whole, w.1 ∙ ap (λ (l : List ℕ). slice_at (row_segments l) d to) whole)
