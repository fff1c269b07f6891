-- The coded values of a row, from the slice that has the samples of its plane.
use Rattle.std.proofs.Common.{◌≡◌, ℕ, zero, suc, ◌+◌, ◌-◌, ◌*◌, List, take, drop, sym, refl, ap, arith}
use Rattle.pixel_format.specs.declared.Channel.{Channel}
use Rattle.pixel_format.specs.declared.Layout.{Layout}
use Rattle.pixel_format.specs.declared.Layout.TheVariants.{Planar}
use Rattle.pixel_format.specs.Channel.{samples_of}
use Rattle.rle_format.specs.Delta.{delta_code, zip_with}
use Rattle.rle_format.specs.Pack.{row_at, codes_at}

-- ---- row r of a plane

module _ (width : ℕ) (samples : List ℕ) where
  pub plane_first : (r : ℕ) → r ≡ 0 → take width samples ≡ codes_at width samples r
  unfolding codes_at row_at
  plane_first zero e = let z : 0 * width ≡ 0 = omega arith in ap (λ (k : ℕ). take width (drop k samples)) (sym z)
  plane_first (suc r) e = absurd (omega arith)

  -- a later row, by the parts of the slice that are the row above and the row
  pub plane_later : (r : ℕ) → (r ≡ 0 → ⊥)
      → zip_with delta_code (take ((r - 1) * width + width - (r - 1) * width) (drop ((r - 1) * width) samples)) (take (r * width + width - r * width) (drop (r * width) samples)) ≡ codes_at width samples r
  unfolding codes_at row_at
  plane_later zero h = absurd (h refl)
  plane_later (suc r) h =
      let z : suc r - 1 ≡ r = omega arith in
      let n : r * width + width - r * width ≡ width = omega arith in
      let m : suc r * width + width - suc r * width ≡ width = omega arith in
      rw (z, n, m) refl

-- ---- the two kinds of layout

module _ (l : Layout) (c : Channel) (s : List ℕ) where
  pub planar_are : l ≡ Planar → s ≡ samples_of l c s
  planar_are e = ap (λ (k : Layout). samples_of k c s) (sym e)
